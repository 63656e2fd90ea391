-- What is read of strings and blocks is in the grammar. In each lemma ih is what is known of the bytes behind the first.
use Rattle.std.proofs.Common.{◌≡◌, ℕ, zero, suc, ◌+◌, true, List, [], ◌∷◌, ◌++◌, refl, sym, ap, subst, ◌∙◌, append_assoc, add-one}
use Rattle.std.proofs.lemmas.List.{append-nil}
use Rattle.rtx_tree.specs.declared.place.Place.{Place}
use Rattle.lisp_read.specs.declared.class.ByteClass.{ByteClass}
use Rattle.lisp_read.specs.declared.class.ByteClass.TheVariants as class
use Rattle.lisp_read.specs.declared.mode.Mode.TheVariants as mode
use Rattle.lisp_read.specs.Class.{class_of, not_zero, in_quotes, in_braces}
use Rattle.lisp_read.specs.Places.{advance}
use Rattle.lisp_read.specs.Part.{Part, Str, Block}
use Rattle.lisp_read.specs.Text as text
use Rattle.lisp_read.specs.Text.{IsQuoted, IsBraced, Spells}
use Rattle.lisp_read.specs.machine.Steps.{Front, in_string, in_string_escape, in_block, in_block_escape, closes_block}
use Rattle.lisp_read.proofs.Classes.{byte_of_class}
use Rattle.lisp_read.proofs.Settles.{fr}
use Rattle.lisp_read.proofs.Rests.{StrParts, BlockParts, Escaped, Sounds, AllSound, Outcome, lift, lift_part}

-- ---- strings

str_more : (here : Place) (b : ℕ) (p : Place) (t : List ℕ) (ps : List Part) (bs : List ℕ) → in_quotes (class_of b) ≡ true → StrParts p (t ++ b ∷ []) (advance here b) ps bs → StrParts p t here ps (b ∷ bs)
str_more here b p t ps bs h a = record {
  body = b ∷ a.body;
  rest = a.rest;
  others = a.others;
  quoted = text.IsQuoted.byte b a.body h a.quoted;
  parts = a.parts ∙ ap (λ (x : List ℕ). Str p x ∷ a.others) (append_assoc t (b ∷ []) a.body);
  cut = ap (λ (x : List ℕ). b ∷ x) a.cut;
  spelled = a.spelled;
}

str_escape : (here : Place) (b : ℕ) (p : Place) (t : List ℕ) (ps : List Part) (bs : List ℕ) → class_of b ≡ class.Backslash → Escaped (StrParts p) (t ++ b ∷ []) (advance here b) ps bs → StrParts p t here ps (b ∷ bs)
str_escape here b p t ps bs h e =
    let a = e.goes_on in
    record {
      body = b ∷ e.byte ∷ a.body;
      rest = a.rest;
      others = a.others;
      quoted = text.IsQuoted.escape b e.byte a.body h e.passes a.quoted;
      parts = a.parts ∙ ap (λ (x : List ℕ). Str p x ∷ a.others) (append_assoc (t ++ b ∷ []) (e.byte ∷ []) a.body ∙ append_assoc t (b ∷ []) (e.byte ∷ a.body));
      cut = ap (λ (x : List ℕ). b ∷ x) (e.cut ∙ ap (λ (x : List ℕ). e.byte ∷ x) a.cut);
      spelled = a.spelled;
    }

str_ends : (here : Place) (b : ℕ) (p : Place) (t : List ℕ) (ps : List Part) (bs : List ℕ) → b ≡ 34 → Spells (advance here b) ps bs → StrParts p t here (Str p t ∷ ps) (b ∷ bs)
str_ends here b p t ps bs e q = subst (λ (x : ℕ). Spells (advance here x) ps bs → StrParts p t here (Str p t ∷ ps) (x ∷ bs)) (sym e) by_quote q
  where
    by_quote : Spells (advance here 34) ps bs → StrParts p t here (Str p t ∷ ps) (34 ∷ bs)
    by_quote s = record { body = []; rest = bs; others = ps; quoted = text.IsQuoted.nothing; parts = ap (λ (x : List ℕ). Str p x ∷ ps) (sym (append-nil t)); cut = refl; spelled = s }

-- ---- blocks

block_more : (here : Place) (b : ℕ) (p : Place) (d d' : ℕ) (t : List ℕ) (ps : List Part) (bs : List ℕ) → ((body : List ℕ) → IsBraced d' body → IsBraced d (b ∷ body)) → BlockParts p d' (t ++ b ∷ []) (advance here b) ps bs → BlockParts p d t here ps (b ∷ bs)
block_more here b p d d' t ps bs h a = record {
  body = b ∷ a.body;
  rest = a.rest;
  others = a.others;
  braced = h a.body a.braced;
  parts = a.parts ∙ ap (λ (x : List ℕ). Block p x ∷ a.others) (append_assoc t (b ∷ []) a.body);
  cut = ap (λ (x : List ℕ). b ∷ x) a.cut;
  spelled = a.spelled;
}

block_escape : (here : Place) (b : ℕ) (p : Place) (d : ℕ) (t : List ℕ) (ps : List Part) (bs : List ℕ) → class_of b ≡ class.Backslash → Escaped (BlockParts p d) (t ++ b ∷ []) (advance here b) ps bs → BlockParts p d t here ps (b ∷ bs)
block_escape here b p d t ps bs h e =
    let a = e.goes_on in
    record {
      body = b ∷ e.byte ∷ a.body;
      rest = a.rest;
      others = a.others;
      braced = text.IsBraced.escape d b e.byte a.body h e.passes a.braced;
      parts = a.parts ∙ ap (λ (x : List ℕ). Block p x ∷ a.others) (append_assoc (t ++ b ∷ []) (e.byte ∷ []) a.body ∙ append_assoc t (b ∷ []) (e.byte ∷ a.body));
      cut = ap (λ (x : List ℕ). b ∷ x) (e.cut ∙ ap (λ (x : List ℕ). e.byte ∷ x) a.cut);
      spelled = a.spelled;
    }

block_ends : (here : Place) (b : ℕ) (p : Place) (t : List ℕ) (ps : List Part) (bs : List ℕ) → b ≡ 125 → Spells (advance here b) ps bs → BlockParts p 0 t here (Block p t ∷ ps) (b ∷ bs)
block_ends here b p t ps bs e q = subst (λ (x : ℕ). Spells (advance here x) ps bs → BlockParts p 0 t here (Block p t ∷ ps) (x ∷ bs)) (sym e) by_brace q
  where
    by_brace : Spells (advance here 125) ps bs → BlockParts p 0 t here (Block p t ∷ ps) (125 ∷ bs)
    by_brace s = record { body = []; rest = bs; others = ps; braced = text.IsBraced.nothing; parts = ap (λ (x : List ℕ). Block p x ∷ ps) (sym (append-nil t)); cut = refl; spelled = s }

module _ (here : Place) (b : ℕ) (bs : List ℕ) (ih : AllSound bs) (f g : Front) where
  pub sound_string : (p : Place) (t : List ℕ) (c : ByteClass) → class_of b ≡ c → Outcome here b bs (in_string f b c p t) g → Sounds (StrParts p t) here f g (b ∷ bs)
  sound_string p t class.Zero e h = cc
  sound_string p t class.Quote e h =
      let byte : b ≡ 34 = rw e at (byte_of_class b) in
      lift_part Spells (StrParts p t) here b bs f g f.within (Str p t) (λ ps q. str_ends here b p t ps bs byte q) (λ ps. refl) (ih mode.Between (advance here b) (fr f.within (f.parts ++ Str p t ∷ [])) g h)
  sound_string p t class.Backslash e h =
      lift (Escaped (StrParts p) (t ++ b ∷ [])) (StrParts p t) here b bs f g (λ ps q. str_escape here b p t ps bs e q) (ih (mode.StrEscape p (t ++ b ∷ [])) (advance here b) f g h)
  sound_string p t c e h =
      lift (StrParts p (t ++ b ∷ [])) (StrParts p t) here b bs f g (λ ps q. str_more here b p t ps bs (ap in_quotes e) q) (ih (mode.Str p (t ++ b ∷ [])) (advance here b) f g h)

  pub sound_string_escape : (p : Place) (t : List ℕ) (c : ByteClass) → class_of b ≡ c → Outcome here b bs (in_string_escape f b c p t) g → Sounds (Escaped (StrParts p) t) here f g (b ∷ bs)
  sound_string_escape p t class.Zero e h = cc
  sound_string_escape p t c e h =
      lift (StrParts p (t ++ b ∷ [])) (Escaped (StrParts p) t) here b bs f g (λ ps q. record { byte = b; rest = bs; passes = ap not_zero e; cut = refl; goes_on = q }) (ih (mode.Str p (t ++ b ∷ [])) (advance here b) f g h)

  pub sound_block_escape : (p : Place) (d : ℕ) (t : List ℕ) (c : ByteClass) → class_of b ≡ c → Outcome here b bs (in_block_escape f b c p d t) g → Sounds (Escaped (BlockParts p d) t) here f g (b ∷ bs)
  sound_block_escape p d t class.Zero e h = cc
  sound_block_escape p d t c e h =
      lift (BlockParts p d (t ++ b ∷ [])) (Escaped (BlockParts p d) t) here b bs f g (λ ps q. record { byte = b; rest = bs; passes = ap not_zero e; cut = refl; goes_on = q }) (ih (mode.Block p d (t ++ b ∷ [])) (advance here b) f g h)

  sound_block_close : (p : Place) (d : ℕ) (t : List ℕ) → class_of b ≡ class.CloseBrace → Outcome here b bs (closes_block f b p d t) g → Sounds (BlockParts p d t) here f g (b ∷ bs)
  sound_block_close p zero t e h =
      let byte : b ≡ 125 = rw e at (byte_of_class b) in
      lift_part Spells (BlockParts p 0 t) here b bs f g f.within (Block p t) (λ ps q. block_ends here b p t ps bs byte q) (λ ps. refl) (ih mode.Between (advance here b) (fr f.within (f.parts ++ Block p t ∷ [])) g h)
  sound_block_close p (suc d) t e h =
      lift (BlockParts p d (t ++ b ∷ [])) (BlockParts p (suc d) t) here b bs f g (λ ps q. block_more here b p (suc d) d t ps bs (λ body z. text.IsBraced.closes d b body e z) q) (ih (mode.Block p d (t ++ b ∷ [])) (advance here b) f g h)

  pub sound_block : (p : Place) (d : ℕ) (t : List ℕ) (c : ByteClass) → class_of b ≡ c → Outcome here b bs (in_block f b c p d t) g → Sounds (BlockParts p d t) here f g (b ∷ bs)
  sound_block p d t class.Zero e h = cc
  sound_block p d t class.Backslash e h =
      lift (Escaped (BlockParts p d) (t ++ b ∷ [])) (BlockParts p d t) here b bs f g (λ ps q. block_escape here b p d t ps bs e q) (ih (mode.BlockEscape p d (t ++ b ∷ [])) (advance here b) f g h)
  sound_block p d t class.OpenBrace e h =
      lift (BlockParts p (d + 1) (t ++ b ∷ [])) (BlockParts p d t) here b bs f g (λ ps q. block_more here b p d (d + 1) t ps bs (λ body z. text.IsBraced.opens d b body e (subst (λ (n : ℕ). IsBraced n body) (add-one d) z)) q) (ih (mode.Block p (d + 1) (t ++ b ∷ [])) (advance here b) f g h)
  sound_block p d t class.CloseBrace e h = sound_block_close p d t e h
  sound_block p d t c e h =
      lift (BlockParts p d (t ++ b ∷ [])) (BlockParts p d t) here b bs f g (λ ps q. block_more here b p d d t ps bs (λ body z. text.IsBraced.byte d b body (ap in_braces e) z) q) (ih (mode.Block p d (t ++ b ∷ [])) (advance here b) f g h)
