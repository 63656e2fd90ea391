-- One line of a function, and its words.
use Rattle.std.proofs.Common.{◌≡◌, ℕ, ℤ, pos, ◌+◌, ◌*◌, ◌%◌, ◌^◌, ◌<◌, ◌≤◌, inl, inr, Bool, true, false, if◌then◌else◌, List, [], ◌∷◌, ◌++◌, length, Option, Some, None, option_map, refl, sym, ◌∙◌, ap, subst, arith, append_assoc, length-append}
use Rattle.std.specs.Prelude.{◌-ℤ◌, slice_get, unwrap_or, option_and_then}
use Rattle.std.specs.List.{All}
use Rattle.std.proofs.lemmas.Bool.{false≢true}
use Rattle.std.proofs.lemmas.Option.{slice_get-map}
use Rattle.long_branches.specs.Branches.{is_long}
use Rattle.long_branches.specs.declared.piece.Piece.TheVariants as pieces
use Rattle.long_branches.proofs.Apart.{ordered}
use Rattle.rtx_tree.specs.declared.machine.RangeAt.{RangeAt}
use Rattle.rtx_tree.specs.declared.machine.World.{World}
use Rattle.run_memory.specs.Symbols.{symbol_address}
use Rattle.rv_text.specs.Table.{row_of}
use Rattle.rv_text.specs.Lines.{action_of, is_of_row}
use Rattle.rv_text.specs.declared.line.Line.{Line}
use Rattle.rv_text.specs.declared.line.CodeItem.{CodeItem}
use Rattle.rv_text.specs.declared.line.CodeItem.TheVariants.{Code}
use Rattle.rv_text.specs.declared.action.Action.TheVariants.{SymbolAddress}
use Rattle.rv_text.specs.declared.mnemonic.Mnemonic.{Mnemonic}
use Rattle.rv_text.specs.declared.mnemonic.Mnemonic.TheVariants as mnemonic
use Rattle.rv_line.specs.Run as lines
use Rattle.rv_line.specs.Run.{Running, call_of}
use Rattle.rv_line.specs.Step.{set_rd, branch_end, call_end, act, step, step_as}
use Rattle.rv_line.specs.declared.state.RvState.{RvState}
use Rattle.rv_line.specs.declared.state.LineEnd.{LineEnd}
use Rattle.rv_line.specs.declared.state.LineEnd.TheVariants.{Next, Jumped, Called}
use Rattle.rv_word.specs.Word.{FitsBase}
use Rattle.rv_word.specs.Spelling.{spelling_of, one_word, register_at, number_at, base_of, opposite}
use Rattle.rv_word.specs.Sequence.{line_words, li_words, far_words, upper, lower, straight}
use Rattle.rv_word.specs.Step.{step_word, turned, DoesAlike, DoesOpposite}
use Rattle.rv_word.specs.declared.base.Base.{Base}
use Rattle.rv_word.specs.declared.base.BaseOp.{BaseOp}
use Rattle.rv_word.specs.declared.base.BaseOp.TheVariants as base
use Rattle.rv_word.specs.declared.spelling.Place.{Place}
use Rattle.rv_word.specs.declared.spelling.Place.TheVariants.{Rd, Ra}
use Rattle.rv_word.specs.declared.spelling.Number.{Number}
use Rattle.rv_word.specs.declared.spelling.Spelling.{Spelling}
use Rattle.rv_word.specs.declared.spelling.Spelling.TheVariants.{One, Near, Leap, Long, Far}
use Rattle.rv_word.proofs.OneWord.{one_word_does, opposite_does}
use Rattle.rv_word.proofs.Straight.{sequences_do}
use Rattle.rv_unit.specs.Names.{mnemonic_named, spelling_named}
use Rattle.rv_unit.specs.Layout.{item_piece, line_piece, lead_of, leads_to, pieces_of}
use Rattle.rv_unit.specs.Words.{Placed, address_in, bases_from, further, item_bases, line_bases, words_of}
use Rattle.rv_unit.proofs.Found.{lead_within}
use Rattle.rv_image.specs.Image.{names_symbol}
use Rattle.words_run.specs.Run as words
use Rattle.words_run.specs.Run.{Fetching}
use Rattle.law_image.specs.WordsDo.{IsWordReply}
use Rattle.law_image.proofs.Steps.{Does, one, then_does, turn_is, at_pc, last_word}
use Rattle.law_image.proofs.Fits.{low_line}
use Rattle.law_image.proofs.Keep.{Holds, holds_words, act_holds, put_holds, with_ra, ra_left}
use Rattle.law_image.proofs.Facts.{Facts, facts}
use Rattle.law_image.proofs.Standing.{word_place, item_at, Stands, stands}
use Rattle.law_image.proofs.Turns as turns
use Rattle.law_image.proofs.Turns.{Follows, fetching, goes_next, calls, long_branch}
use Rattle.law_image.proofs.Sequences.{li_fit, li_some, la_fit, call_fit, some_straight}
use Rattle.law_image.proofs.Acts.{Sound, branch_does, branches_no_symbol, eight_even, eight_range, even_distance, even_over, has_jumped, leap_range, near_range, no_leap, no_symbol, over_range, plain_stays, row_is, same_args}

module _ (unit : Placed) (from : ℕ) (world : World) (ranges : List RangeAt) (sound : Sound unit from world) (front rest : List CodeItem) (line : Line) (split : unit.items ≡ front ++ Code line ∷ rest) (s : Running) (holds : Holds s.machine) (replies : All IsWordReply s.replies) where
  abbrev n : ℕ
  n = length front

  abbrev t : Fetching
  t = fetching unit from n s

  abbrev to : ℕ
  to = leads_to unit.items line.target

  -- what the words do, where the line ends so
  abbrev Goal : LineEnd × RvState → Type 0
  Goal done = Follows unit from world ranges t (lines.after_line done.0 ranges unit.items line rest (record s { machine = done.1 }))

  own : Stands unit n (Code line)
  own = stands unit front rest (Code line) split

  small_next : 4 * word_place unit (n + 1) ≤ 1048572
  small_next = omega (arith, own.within, sound.size)

  small_here : 4 * word_place unit n ≤ 1048572
  small_here = omega (arith, own.next, small_next)

  small_to : 4 * word_place unit to ≤ 1048572
  small_to = omega (arith, ordered (pieces_of unit.items) unit.longs to (length unit.items) (lead_within line.target unit.items), sound.size)

  fits_to : from + 4 * word_place unit to < 2 ^ 62
  fits_to = omega (arith, small_to, sound.place)

  fits_next : from + 4 * word_place unit (n + 1) < 2 ^ 62
  fits_next = omega (arith, small_next, sound.place)

  place_is : t.pc ≡ from + 4 * length own.before
  place_is = ap (λ k. from + 4 * k) (sym own.size)

  -- the instructions of the line
  module _ (m : Mnemonic) (named : mnemonic_named line.name ≡ Some m) (of_row : is_of_row (row_of m) line ≡ true) where
    abbrev done : LineEnd × RvState
    done = act (row_of m).action world line s.machine

    abbrev far : ℤ
    far = further unit n line.target

    bases_are : (sp : Spelling) → spelling_of m ≡ sp → (bs : List Base) → line_words sp line (is_long unit.longs n) far (address_in unit.symbols line.target) ≡ bs → item_bases unit n (Code line) ≡ bs
    bases_are sp is bs words_are =
        ap (λ o. line_bases (option_map spelling_of o) line (is_long unit.longs n) far (address_in unit.symbols line.target)) named
        ∙ (ap (λ x. line_words x line (is_long unit.longs n) far (address_in unit.symbols line.target)) is ∙ words_are)

    cut : (bs : List Base) → item_bases unit n (Code line) ≡ bs → bases_from unit 0 unit.items ≡ own.before ++ (bs ++ own.after)
    cut bs are = own.split ∙ ap (λ x. own.before ++ (x ++ own.after)) are

    wide : (bs : List Base) → item_bases unit n (Code line) ≡ bs → word_place unit (n + 1) ≡ word_place unit n + length bs
    wide bs are = own.next ∙ ap (λ (x : List Base). word_place unit n + length x) are

    does_alike : (sp : Spelling) → spelling_of m ≡ sp → DoesAlike world m line s.machine (one_word sp line far)
    does_alike sp is = subst (λ x. DoesAlike world m line s.machine (one_word x line far)) is (one_word_does world m line s.machine far of_row (holds_words s.machine holds))

    single : (b : Base) → item_bases unit n (Code line) ≡ b ∷ [] → FitsBase b → step_word world b s.machine ≡ done → ((row_of m).action ≡ SymbolAddress → ⊥) → (done.0 ≡ Jumped → b.imm ≡ far) → Goal done
    single b are fits steps nothing jumps =
        turns.one_word unit from world ranges front rest line s split replies fits_to fits_next b own.before own.after (cut (b ∷ []) are) own.size (wide (b ∷ []) are) fits done steps (act_holds (row_of m).action world line s.machine holds (λ is. absurd (nothing is))) jumps

    one_follows : (op : BaseOp) (rd rs1 rs2 : Place) (number : Number) → spelling_of m ≡ One op rd rs1 rs2 number → Facts m (One op rd rs1 rs2 number) line → Goal done
    one_follows op rd rs1 rs2 number is f =
        let b : Base = base_of op (register_at rd line) (register_at rs1 line) (register_at rs2 line) (number_at number line) in
        single b (bases_are (One op rd rs1 rs2 number) is (b ∷ []) refl) f.0 (does_alike (One op rd rs1 rs2 number) is) (no_symbol (row_of m).action f.1)
        (λ jumps. absurd (false≢true (sym (plain_stays (row_of m).action world line s.machine f.1) ∙ ap has_jumped jumps)))

    near_follows : (op : BaseOp) (rs1 rs2 : Place) → spelling_of m ≡ Near op rs1 rs2 → Facts m (Near op rs1 rs2) line → Goal done
    near_follows op rs1 rs2 is f = by (is_long unit.longs n) refl
      where
        piece : slice_get (pieces_of unit.items) n ≡ Some (pieces.Branch to)
        piece =
            slice_get-map (λ x. item_piece x (lead_of unit.items x)) unit.items n ∙ (ap (option_map (λ x. item_piece x (lead_of unit.items x))) (item_at unit.items front rest (Code line) split)
            ∙ (ap (λ o. Some (line_piece (option_map spelling_of o) line to)) named ∙ ap (λ x. Some (line_piece (Some x) line to)) is))

        by : (long : Bool) → is_long unit.longs n ≡ long → Goal done
        by false short =
            let b : Base = base_of op 0 (register_at rs1 line) (register_at rs2 line) far in
            let words_are = ap (λ long. line_words (Near op rs1 rs2) line long far (address_in unit.symbols line.target)) short in
            let fits = f.0 far (even_distance (word_place unit n) (word_place unit to) small_here small_to) (near_range (word_place unit n) (word_place unit to) (sound.closed n to piece short) small_here small_to) in
            single b (bases_are (Near op rs1 rs2) is (b ∷ []) words_are) fits.0 (does_alike (Near op rs1 rs2) is) (branches_no_symbol (row_of m).action f.1) (λ jumps. refl)
        by true long =
            let b : Base = base_of (opposite op) 0 (register_at rs1 line) (register_at rs2 line) (pos 8) in
            let jal : Base = base_of base.Jal 0 0 0 (far -ℤ pos 4) in
            let words_are = ap (λ long. line_words (Near op rs1 rs2) line long far (address_in unit.symbols line.target)) long in
            let are = bases_are (Near op rs1 rs2) is (b ∷ jal ∷ []) words_are in
            let two = wide (b ∷ jal ∷ []) are in
            let small : 4 * word_place unit n + 8 ≤ 1048572 = omega (arith, two, small_next) in
            let zero_low : 0 < 32 = omega arith in
            let fits_jump : FitsBase jal = (zero_low, refl, refl, even_over (word_place unit n) (word_place unit to) small small_to, over_range (word_place unit n) (word_place unit to) small small_to) in
            let fits : FitsBase b = (f.0 (pos 8) eight_even eight_range).1 in
            let branch = branch_does (row_of m).action world line s.machine f.1 in
            let opposite_is : step_word world b s.machine ≡ (turned done.0, s.machine) = subst (λ x. DoesOpposite world m line s.machine x) is (opposite_does world m line s.machine) (pos 8) in
            let steps : step_word world b s.machine ≡ (turned (branch_end branch.taken), s.machine) = opposite_is ∙ ap (λ (d : LineEnd × RvState). (turned d.0, s.machine)) branch.is in
            subst Goal (sym branch.is) (long_branch unit from world ranges front rest line s split replies fits_to fits_next b own.before own.after (cut (b ∷ jal ∷ []) are) own.size two fits fits_jump refl branch.taken steps holds)

    leap_follows : spelling_of m ≡ Leap → Facts m Leap line → Goal done
    leap_follows is f =
        let b : Base = base_of base.Jal 0 0 0 far in
        let zero_low : 0 < 32 = omega arith in
        let fits : FitsBase b = (zero_low, refl, refl, even_distance (word_place unit n) (word_place unit to) small_here small_to, leap_range (word_place unit n) (word_place unit to) small_here small_to) in
        single b (bases_are Leap is (b ∷ []) refl) fits (does_alike Leap is) (no_leap (row_of m).action f) (λ jumps. refl)

  -- ---- li, la and call

  li_follows : mnemonic_named line.name ≡ Some mnemonic.Li → is_of_row (row_of mnemonic.Li) line ≡ true → Goal (act (row_of mnemonic.Li).action world line s.machine)
  li_follows named of_row =
      let bs : List Base = li_words 3 line.rd line.imm in
      let are = bases_are mnemonic.Li named of_row Long refl bs refl in
      let low = low_line (row_of mnemonic.Li) line of_row in
      let after : RvState = (act (row_of mnemonic.Li).action world line s.machine).1 in
      let does = some_straight (bases_from unit 0 unit.items) from world ranges bs own.before own.after t after (li_some 3 line.rd line.imm) (cut mnemonic.Li named of_row bs are) place_is (li_fit 3 line.rd line.imm low.rd) (sequences_do.li world line s.machine of_row holds.count) in
      let end : from + 4 * (length own.before + length bs) ≡ from + 4 * word_place unit (n + 1) = omega (arith, own.size, wide mnemonic.Li named of_row bs are) in
      let kept = act_holds (row_of mnemonic.Li).action world line s.machine holds (λ is. absurd (no_symbol (row_of mnemonic.Li).action refl is)) in
      goes_next unit from world ranges front rest line s split replies after kept (subst (λ pc. Does (words_of unit) from world ranges t (words.Goes (at_pc t pc after))) end does)

  -- the address that the image gives to the symbol of a line
  address_is : names_symbol (spelling_named line.name) ≡ true → (address : ℕ) → symbol_address world.symbols line.target ≡ Some address → (address_in unit.symbols line.target ≡ address) × ((address + 2048 < 2 ^ 31) × (address % 4 ≡ 0))
  address_is names address there =
      let known : symbol_address unit.symbols line.target ≡ Some address = sym (sound.has n line (item_at unit.items front rest (Code line) split) names) ∙ there in
      (ap (λ (o : Option ℕ). unwrap_or o 0) known, sound.addresses line.target address known)

  la_follows : mnemonic_named line.name ≡ Some mnemonic.La → is_of_row (row_of mnemonic.La) line ≡ true → Goal (act (row_of mnemonic.La).action world line s.machine)
  la_follows named of_row = by (symbol_address world.symbols line.target) refl
    where
      by : (o : Option ℕ) → symbol_address world.symbols line.target ≡ o → Goal (set_rd s.machine line o)
      by None there = λ not_stuck. absurd (not_stuck refl)
      by (Some address) there =
          let known = address_is (ap (λ o. names_symbol (option_map spelling_of o)) named) address there in
          let bs : List Base = far_words base.Addi line.rd address in
          let are = bases_are mnemonic.La named of_row (Far base.Addi Rd) refl bs (ap (far_words base.Addi line.rd) known.0) in
          let low = low_line (row_of mnemonic.La) line of_row in
          let after : RvState = (set_rd s.machine line (Some address)).1 in
          let goes : straight world bs s.machine ≡ (Next, after) = sequences_do.la world line s.machine address of_row holds.count there known.1.0 ∙ ap (set_rd s.machine line) there in
          let does = some_straight (bases_from unit 0 unit.items) from world ranges bs own.before own.after t after (omega arith) (cut mnemonic.La named of_row bs are) place_is (la_fit line.rd address low.rd known.1.0) goes in
          let end : from + 4 * (length own.before + length bs) ≡ from + 4 * word_place unit (n + 1) = omega (arith, own.size, wide mnemonic.La named of_row bs are) in
          let kept : Holds after = put_holds s.machine line.rd address holds (omega (arith, known.1.0)) in
          goes_next unit from world ranges front rest line s split replies after kept (subst (λ pc. Does (words_of unit) from world ranges t (words.Goes (at_pc t pc after))) end does)

  call_follows : mnemonic_named line.name ≡ Some mnemonic.Call → is_of_row (row_of mnemonic.Call) line ≡ true → Goal (act (row_of mnemonic.Call).action world line s.machine)
  call_follows named of_row = by (symbol_address world.symbols line.target) refl
    where
      by : (o : Option ℕ) → symbol_address world.symbols line.target ≡ o → Goal (call_end o, s.machine)
      by None there = λ not_stuck. absurd (not_stuck refl)
      by (Some address) there =
          let known = address_is (ap (λ o. names_symbol (option_map spelling_of o)) named) address there in
          let lui : Base = base_of base.Lui 1 0 0 (pos (upper address)) in
          let jalr : Base = base_of base.Jalr 1 1 0 (lower address) in
          let bs : List Base = lui ∷ jalr ∷ [] in
          let are = bases_are mnemonic.Call named of_row (Far base.Jalr Ra) refl bs (ap (far_words base.Jalr 1) known.0) in
          let fits = call_fit address known.1.0 in
          let other : RvState = with_ra s.machine (4096 * upper address) in
          let goes : straight world bs s.machine ≡ (Called address, other) =
          sequences_do.call world line s.machine address holds.count there known.1.0 known.1.1 ∙ ap (λ o. (call_end o, other)) there in
          let middle : RvState = (step_word world lui s.machine).1 in
          let first : words.turn (words_of unit) from world ranges t ≡ words.Goes (at_pc t (t.pc + 4) middle) =
          turn_is (bases_from unit 0 unit.items) from world ranges own.before (jalr ∷ own.after) lui t (Next, middle) (cut mnemonic.Call named of_row bs are) place_is fits.0 refl in
          let u : Fetching = at_pc t (t.pc + 4) middle in
          let calls_there : step_word world jalr middle ≡ (Called address, other) =
          sym (last_word (bases_from unit 0 unit.items) from world ranges jalr middle (step_word world jalr middle).0 (step_word world jalr middle).1) ∙ goes in
          let longer : length (own.before ++ lui ∷ []) ≡ length own.before + 1 = length-append own.before (lui ∷ []) in
          let second : u.pc ≡ from + 4 * length (own.before ++ lui ∷ []) = omega (arith, longer, own.size) in
          let cut_more : bases_from unit 0 unit.items ≡ (own.before ++ lui ∷ []) ++ jalr ∷ own.after = cut mnemonic.Call named of_row bs are ∙ sym (append_assoc own.before (lui ∷ []) (jalr ∷ own.after)) in
          let T : words.Turn = words.called ranges address (at_pc t (t.pc + 4) other) in
          let third : words.turn (words_of unit) from world ranges u ≡ T =
          turn_is (bases_from unit 0 unit.items) from world ranges (own.before ++ lui ∷ []) own.after jalr u (Called address, other) cut_more second fits.1.0 calls_there in
          let end : t.pc + 4 + 4 ≡ from + 4 * word_place unit (n + 1) = omega (arith, wide mnemonic.Call named of_row bs are) in
          let same_call : call_of ranges address other ≡ call_of ranges address s.machine =
          ap (λ args. record (call_of ranges address s.machine) { args = args }) (same_args s.machine.regs (4096 * upper address)) in
          calls unit from world ranges front rest line s split replies s.machine other address (t.pc + 4) holds same_call (λ reply. ra_left s.machine (4096 * upper address) reply) end
          (then_does (words_of unit) from world ranges t u T first (one (words_of unit) from world ranges u T third))

  -- ---- any line

  abbrev Claim : Mnemonic → Type 0
  Claim k = mnemonic_named line.name ≡ Some k → is_of_row (row_of k) line ≡ true → Goal (act (row_of k).action world line s.machine)

  named_follows : (m : Mnemonic) → mnemonic_named line.name ≡ Some m → is_of_row (row_of m) line ≡ true → Goal (act (row_of m).action world line s.machine)
  named_follows m named of_row = by (spelling_of m) refl (facts m line of_row)
    where
      by : (sp : Spelling) → spelling_of m ≡ sp → Facts m sp line → Goal (act (row_of m).action world line s.machine)
      by (One op rd rs1 rs2 number) is f = one_follows m named of_row op rd rs1 rs2 number is f
      by (Near op rs1 rs2) is f = near_follows m named of_row op rs1 rs2 is f
      by Leap is f = leap_follows m named of_row is f
      by Long is f = subst Claim (sym f) li_follows named of_row
      by (Far op through) is (inl f) = subst Claim (sym f) la_follows named of_row
      by (Far op through) is (inr f) = subst Claim (sym f) call_follows named of_row

  pub line_follows : Follows unit from world ranges t (lines.turn_at (Some (line, rest)) world ranges unit.items s)
  line_follows = by (mnemonic_named line.name) refl
    where
      action_is : (o : Option Mnemonic) → mnemonic_named line.name ≡ o → action_of line ≡ option_and_then (λ row. if is_of_row row line then Some row.action else None) (option_map row_of o)
      action_is o is = ap (option_and_then (λ row. if is_of_row row line then Some row.action else None)) (row_is line.name ∙ ap (option_map row_of) is)

      no_line : action_of line ≡ None → Goal (step world line s.machine)
      no_line none = subst (λ a. Goal (step_as a world line s.machine)) (sym none) (λ not_stuck. absurd (not_stuck refl))

      in_row : (m : Mnemonic) → mnemonic_named line.name ≡ Some m → (b : Bool) → is_of_row (row_of m) line ≡ b → Goal (step world line s.machine)
      in_row m named false e = no_line (action_is (Some m) named ∙ ap (λ t. if t then Some (row_of m).action else None) e)
      in_row m named true e =
          subst (λ a. Goal (step_as a world line s.machine)) (sym (action_is (Some m) named ∙ ap (λ t. if t then Some (row_of m).action else None) e)) (named_follows m named e)

      by : (o : Option Mnemonic) → mnemonic_named line.name ≡ o → Goal (step world line s.machine)
      by None e = no_line (action_is None e)
      by (Some m) e = in_row m e (is_of_row (row_of m) line) refl
