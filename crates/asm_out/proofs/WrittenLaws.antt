-- What a function comes to is what is written of it.
use Rattle.std.proofs.Common.{◌≡◌, ℕ, ◌+◌, ◌≤◌, List, [], ◌∷◌, ◌++◌, length, Ok, refl, sym, ap, subst, ◌∙◌, append_assoc, arith}
use Rattle.std.proofs.lemmas.List.{length-append}
use Rattle.rtx_tree.specs.declared.function.Insn.{Insn}
use Rattle.rtx_tree.specs.declared.function.Function.{Function}
use Rattle.rv_text.specs.declared.line.CodeItem.{CodeItem}
use Rattle.md_forms.specs.declared.form.Entry.{Entry}
use Rattle.md_output.specs.Filled.{lines_of}
use Rattle.asm_out.specs.declared.piece.Piece.{Piece}
use Rattle.asm_out.specs.Frame.{opening_lines, closing_line}
use Rattle.asm_out.specs.Filled.{text_of}
use Rattle.rtx_tree.specs.Limit.{most_output}
use Rattle.asm_out.specs.Outcome.{Outcome, nothing, only_text, joined}
use Rattle.asm_out.specs.Comes.{PlaceComes, label_piece, code_piece, Part, Opening, Place, Closing, PartComes, PartsCome, places_from, FunctionComes}
use Rattle.asm_out.specs.Written.{AreWritten, IsWritten}
use Rattle.asm_out.proofs.LineLaws.{read_all, equated_acting}
use Rattle.asm_out.proofs.PartLaws.{Alike, joined_nothing, behind_ok, limited_ok, parts_within}

-- the first of some parts came to a piece, and the others to another behind it
record Cut (comes : Part → Outcome → Type 0) (size : ℕ) (p : Part) (parts : List Part) (piece : Piece) : Type 0 where
  first : Piece
  came : comes p (Ok first)
  room : size + length first.text ≤ most_output
  rest : Piece
  others : PartsCome comes (size + length first.text) parts (Ok rest)
  both : joined first rest ≡ piece

cut_by : (comes : Part → Outcome → Type 0) (size : ℕ) (p : Part) (parts : List Part) (all : List Part) (o : Outcome) (piece : Piece) → PartsCome comes size all o → all ≡ p ∷ parts → o ≡ Ok piece → Cut comes size p parts piece
cut_by comes _ p parts _ _ piece (PartsCome.none size) is h = cc
cut_by comes _ p parts _ _ piece (PartsCome.refused size q others o e here lim) is h = cc
cut_by comes _ p parts _ _ piece (PartsCome.goes_on size q others o first rest here lim tail) is h =
    let heads : q ≡ p = cc in
    let tails : others ≡ parts = cc in
    let came = limited_ok size o first lim in
    let last = behind_ok first rest piece h in
    record {
      first = first;
      came = subst (λ (q : Part). comes q (Ok first)) heads (subst (comes q) came.0 here);
      room = came.1;
      rest = last.0;
      others = subst (λ (ps : List Part). PartsCome comes (size + length first.text) ps (Ok last.0)) tails (subst (PartsCome comes (size + length first.text) others) last.1 tail);
      both = last.2;
    }

cut_first : (comes : Part → Outcome → Type 0) (size : ℕ) (p : Part) (parts : List Part) (piece : Piece) → PartsCome comes size (p ∷ parts) (Ok piece) → Cut comes size p parts piece
cut_first comes size p parts piece all = cut_by comes size p parts (p ∷ parts) (Ok piece) piece all refl refl

-- no more is written
none_by : (comes : Part → Outcome → Type 0) (size : ℕ) (all : List Part) (o : Outcome) (piece : Piece) → PartsCome comes size all o → all ≡ [] → o ≡ Ok piece → nothing ≡ piece
none_by comes _ _ _ piece (PartsCome.none size) is h = cc
none_by comes _ _ _ piece (PartsCome.refused size q others o e here lim) is h = cc
none_by comes _ _ _ piece (PartsCome.goes_on size q others o first rest here lim tail) is h = cc

module _ (forms : List Entry) (number : ℕ) (f : Function) where
  -- what stands for the chain, and the line behind it
  record Chain (place : ℕ) (insns : List Insn) (piece : Piece) : Type 0 where
    body : List ℕ
    text_is : piece.text ≡ body ++ closing_line f.name
    are : AreWritten forms number f place insns body piece.items

  closed : (size place : ℕ) (piece : Piece) → PartsCome (PartComes forms number f) size (Closing ∷ []) (Ok piece) → Chain place [] piece
  closed size place piece all =
      let cut = cut_first (PartComes forms number f) size Closing [] piece all in
      let none : nothing ≡ cut.rest = none_by (PartComes forms number f) (size + length cut.first.text) [] (Ok cut.rest) cut.rest cut.others refl refl in
      let came : Ok cut.first ≡ Ok (only_text (closing_line f.name)) = cut.came in
      let first : cut.first ≡ only_text (closing_line f.name) = cc in
      let is : piece ≡ only_text (closing_line f.name) = sym cut.both ∙ (ap (λ (r : Piece). joined cut.first r) (sym none) ∙ (joined_nothing cut.first ∙ first)) in
      record {
        body = [];
        text_is = ap (λ (p : Piece). p.text) is;
        are = subst (λ (is : List CodeItem). AreWritten forms number f place [] [] is) (sym (ap (λ (p : Piece). p.items) is)) (AreWritten.none place);
      }

  -- something more in front
  put_first : (place : ℕ) (i : Insn) (insns : List Insn) (first rest piece made : Piece) → Alike (Ok made) (Ok first) → joined first rest ≡ piece → (chain : Chain (place + 1) insns rest) →
      AreWritten forms number f place (i ∷ insns) (made.text ++ chain.body) (made.items ++ rest.items) → Chain place (i ∷ insns) piece
  put_first place i insns first rest piece made h both chain are =
      let same : made ≡ first = cc in
      let is : joined made rest ≡ piece = ap (λ (p : Piece). joined p rest) same ∙ both in
      record {
        body = made.text ++ chain.body;
        text_is = sym (ap (λ (p : Piece). p.text) is) ∙ (ap (λ (t : List ℕ). made.text ++ t) chain.text_is ∙ sym (append_assoc made.text chain.body (closing_line f.name)));
        are = subst (AreWritten forms number f place (i ∷ insns) (made.text ++ chain.body)) (ap (λ (p : Piece). p.items) is) are;
      }

  -- one item more in front
  grown : (place : ℕ) (i : Insn) (insns : List Insn) (o : Outcome) (first rest piece : Piece) → PlaceComes forms number f place i o → o ≡ Ok first → joined first rest ≡ piece → Chain (place + 1) insns rest → Chain place (i ∷ insns) piece
  grown place i insns _ first rest piece (PlaceComes.label is small) h both chain =
      put_first place i insns first rest piece (label_piece number i.uid) h both chain (AreWritten.label place i insns chain.body rest.items is small chain.are)
  grown place i insns _ first rest piece (PlaceComes.silent is) h both chain =
      put_first place i insns first rest piece nothing h both chain (AreWritten.silent place i insns chain.body rest.items is chain.are)
  grown place i insns _ first rest piece (PlaceComes.unmatched needs none) h both chain = cc
  grown place i insns _ first rest piece (PlaceComes.refused c lines live e tried is) h both chain = cc
  grown place i insns _ first rest piece (PlaceComes.equated c lines live tried is) h both chain =
      put_first place i insns first rest piece (code_piece forms number i c lines) h both chain
      (AreWritten.lines place i insns c lines chain.body rest.items
      (record {
        live = live;
        tried = tried;
        spelled = read_all (lines_of (text_of forms number i c)) lines tried.read (equated_acting (i ∷ []) number lines live is);
        equated = is;
      })
      chain.are)

  chain_written : (size place : ℕ) (insns : List Insn) (piece : Piece) → PartsCome (PartComes forms number f) size (places_from place insns ++ Closing ∷ []) (Ok piece) → Chain place insns piece
  chain_written size place [] piece all = closed size place piece all
  chain_written size place (i ∷ insns) piece all =
      let cut = cut_first (PartComes forms number f) size (Place place i) (places_from (place + 1) insns ++ Closing ∷ []) piece all in
      grown place i insns (Ok cut.first) cut.first cut.rest piece cut.came refl cut.both (chain_written (size + length cut.first.text) (place + 1) insns cut.rest cut.others)

  opened : (size : ℕ) (piece : Piece) → FunctionComes forms number f size (Ok piece) → Cut (PartComes forms number f) size Opening (places_from 0 f.insns ++ Closing ∷ []) piece
  opened size piece all = cut_first (PartComes forms number f) size Opening (places_from 0 f.insns ++ Closing ∷ []) piece all

  pub function_written : (size : ℕ) (piece : Piece) → FunctionComes forms number f size (Ok piece) → IsWritten forms number f piece
  function_written size piece all =
      let cut = opened size piece all in
      let chain = chain_written (size + length cut.first.text) 0 f.insns cut.rest cut.others in
      let came : Ok cut.first ≡ Ok (only_text (opening_lines f.name)) = cut.came in
      let first : cut.first ≡ only_text (opening_lines f.name) = cc in
      let is : joined (only_text (opening_lines f.name)) cut.rest ≡ piece = ap (λ (p : Piece). joined p cut.rest) (sym first) ∙ cut.both in
      record {
        body = chain.body;
        framed_is = sym (ap (λ (p : Piece). p.text) is) ∙ ap (λ (t : List ℕ). opening_lines f.name ++ t) chain.text_is;
        are = subst (AreWritten forms number f 0 f.insns chain.body) (ap (λ (p : Piece). p.items) is) chain.are;
      }

  pub function_within : (size : ℕ) (piece : Piece) → FunctionComes forms number f size (Ok piece) → size + length piece.text ≤ most_output
  function_within size piece all =
      let cut = opened size piece all in
      let inner = parts_within (PartComes forms number f) (size + length cut.first.text) (places_from 0 f.insns ++ Closing ∷ []) (Ok cut.rest) cut.rest cut.others refl cut.room in
      omega (arith, inner, ap (λ (p : Piece). length p.text) cut.both, length-append cut.first.text cut.rest.text)
