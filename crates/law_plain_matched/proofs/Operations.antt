-- Operations on one operand and two are matched, but where a constant stands second that no form takes there.
use Rattle.std.proofs.Common.{◌≡◌, inl, inr, ℕ, pos, negsuc, Bool, true, false, ◌&&◌, ◌||◌, List, [], ◌∷◌, codes, Some, refl, sym, ap, subst, ◌∙◌, arith}
use Rattle.std.proofs.lemmas.Bool.Decides.{nat_tests}
use Rattle.std.specs.Prelude.{ℤ, int_le, int_lt}
use Rattle.rtx_tree.specs.declared.code.Code.{Code}
use Rattle.rtx_tree.specs.declared.code.Code.TheVariants as code
use Rattle.rtx_tree.specs.declared.code.Mode.{Mode}
use Rattle.rtx_tree.specs.declared.code.Mode.TheVariants.{QI, HI, SI, DI}
use Rattle.rtx_tree.specs.declared.tree.Rtx.{Rtx, out-Rtx}
use Rattle.rtx_tree.specs.Code.{class_of_code, mode_bits}
use Rattle.rtx_tree.specs.Patterns.{set_rtx}
use Rattle.rtx_tree.specs.Tree.{node_of}
use Rattle.md_operand.specs.Operand.{accepts, register_operand, const_int_operand, is_constant, is_extended}
use Rattle.md_operand.specs.declared.built_in.BuiltIn.TheVariants as own
use Rattle.md_match.specs.Pattern.{role_of}
use Rattle.md_match.specs.declared.role.Role.TheVariants.{Itself}
use Rattle.md_text.specs.declared.template.Template.{Template}
use Rattle.md_forms.specs.declared.form.OperandConstraint.{OperandConstraint}
use Rattle.md_pred.specs.Holds.{holds}
use Rattle.form_needs.specs.Needs.{lower_facts}
use Rattle.lower_insn.specs.Lowered.{IsMatched}
use Rattle.pred_expr.specs.Texts.{always}
use Rattle.plain_forms.specs.Parts as parts
use Rattle.plain_forms.specs.Makers.{insn, sets, of_one, of_two}
use Rattle.plain_forms.specs.Forms as plain
use Rattle.plain_forms.specs.Forms.{plain_forms}
use Rattle.plain_shape.specs.Plain.{is_part, is_count_in, is_count}
use Rattle.plain_shape.specs.declared.shape.Part.{Part}
use Rattle.plain_shape.specs.declared.shape.Part.TheVariants as part
use Rattle.plain_shape.specs.declared.shape.Source.TheVariants as source
use Rattle.law_plain_leaves.proofs.Shaped.{two_of}
use Rattle.law_plain_leaves.proofs.Leaves.{IsMode}
use Rattle.law_plain_operands.proofs.Plain.{have_plain}
use Rattle.law_plain_matched.specs.Matched.{IsExpanded, takes_registers, is_word}
use Rattle.law_plain_taken.proofs.Nodes.{IsOperation}
use Rattle.law_plain_matched.proofs.Found.{Has, matched, among_arithmetic, among_bits, among_extensions, among_truncations}
use Rattle.law_plain_taken.proofs.Conditions.{always_met}
use Rattle.law_plain_taken.proofs.Sets.{unary, binary}
use Rattle.law_plain_taken.proofs.Takes.{register_or_int, register_for_0}
use Rattle.law_plain_matched.proofs.Shapes.{IsSetOf, IsBinary, is_unary, is_binary, constant_of}
use Rattle.law_plain_matched.proofs.Moves.{Comes}

-- ---- forms that set a register to an operation

module _ (name : List ℕ) (m : Mode) (c : Code) (role : role_of c ≡ Itself) (q : List ℕ) (n : Mode) (constraints : List OperandConstraint) (template : Template) where
  pub unary_matched : Has plain_forms (insn name (sets m (of_one c m (parts.operand q 1 n))) constraints template) → (a b : Rtx) → accepts own.Register m a ≡ true → holds plain_forms q b n ≡ true →
      IsMatched plain_forms (set_rtx a (node_of c m (b ∷ [])))
  unary_matched has a b place is =
      matched plain_forms _ _ (set_rtx a (node_of c m (b ∷ []))) _ has refl refl
      (unary (holds plain_forms) lower_facts always (codes "register_operand") m a place q n b is c m role (always_met (holds plain_forms) lower_facts (Some a ∷ Some b ∷ [])))

  pub binary_matched : (r : List ℕ) (o : Mode) → Has plain_forms (insn name (sets m (of_two c m (parts.operand q 1 n) (parts.operand r 2 o))) constraints template) → (a b d : Rtx) → accepts own.Register m a ≡ true →
      holds plain_forms q b n ≡ true → holds plain_forms r d o ≡ true → IsMatched plain_forms (set_rtx a (node_of c m (b ∷ d ∷ [])))
  binary_matched r o has a b d place is also =
      matched plain_forms _ _ (set_rtx a (node_of c m (b ∷ d ∷ []))) _ has refl refl
      (binary (holds plain_forms) lower_facts always (codes "register_operand") m a place q n b is c m role r o d also (always_met (holds plain_forms) lower_facts (Some a ∷ Some b ∷ Some d ∷ [])))

-- ---- one operand

module _ (m : Mode) (moded : IsMode m) (c : Code) (plain_class : IsOperation (class_of_code c)) (role : role_of c ≡ Itself) (x : Rtx) where
  abbrev Takes : Part → List ℕ → Mode → Type 0
  Takes a q n = (y : Rtx) → is_part a y ≡ true → holds plain_forms q y n ≡ true

  one_operand : (a : Part) (q : List ℕ) (n : Mode) (name : List ℕ) (constraints : List OperandConstraint) (template : Template) → Takes a q n →
      Has plain_forms (insn name (sets m (of_one c m (parts.operand q 1 n))) constraints template) → IsSetOf (part.Register m) (source.Unary c m a) x → Comes x
  one_operand a q n name constraints template takes has s =
      let u = is_unary c m moded plain_class s.source s.well_source a s.is_from in
      inl (subst (IsMatched plain_forms) (sym (s.is ∙ ap (set_rtx s.place) u.is)) (unary_matched name m c role q n constraints template has s.place u.inner s.is_target (takes u.inner u.is_inner)))

-- ---- the shapes of one operand

module _ (x : Rtx) where
  pub neg_si : IsSetOf (part.Register SI) (source.Unary code.Neg SI (part.Register SI)) x → Comes x
  neg_si = one_operand SI refl code.Neg (refl, refl) refl x (part.Register SI) (codes "register_operand") SI _ _ _ (λ y is. is) (among_arithmetic 16 (plain.negs SI) refl)

  pub neg_di : IsSetOf (part.Register DI) (source.Unary code.Neg DI (part.Register DI)) x → Comes x
  neg_di = one_operand DI refl code.Neg (refl, refl) refl x (part.Register DI) (codes "register_operand") DI _ _ _ (λ y is. is) (among_arithmetic 17 (plain.negs DI) refl)

  pub not_si : IsSetOf (part.Register SI) (source.Unary code.Not SI (part.Register SI)) x → Comes x
  not_si = one_operand SI refl code.Not (refl, refl) refl x (part.Register SI) (codes "register_operand") SI _ _ _ (λ y is. is) (among_bits 0 (plain.nots SI) refl)

  pub not_di : IsSetOf (part.Register DI) (source.Unary code.Not DI (part.Register DI)) x → Comes x
  not_di = one_operand DI refl code.Not (refl, refl) refl x (part.Register DI) (codes "register_operand") DI _ _ _ (λ y is. is) (among_bits 1 (plain.nots DI) refl)

  pub sign_si_di : IsSetOf (part.Register DI) (source.Unary code.SignExtend DI (part.RegisterOrMemory SI)) x → Comes x
  sign_si_di = one_operand DI refl code.SignExtend (refl, refl) refl x (part.RegisterOrMemory SI) (codes "nonimmediate_operand") SI _ _ _ (λ y is. is) (among_extensions 0 (plain.extension (codes "extendsidi2") code.SignExtend DI SI (parts.on_two (codes "sext.w")) (parts.on_two (codes "lw"))) refl)

  pub zero_si_di : IsSetOf (part.Register DI) (source.Unary code.ZeroExtend DI (part.RegisterOrMemory SI)) x → Comes x
  zero_si_di = one_operand DI refl code.ZeroExtend (refl, refl) refl x (part.RegisterOrMemory SI) (codes "nonimmediate_operand") SI _ _ _ (λ y is. is) (among_extensions 1 (plain.extension (codes "zero_extendsidi2") code.ZeroExtend DI SI (plain.shifted (codes "32") (codes "srli")) (parts.on_two (codes "lwu"))) refl)

  pub sign_qi_si : IsSetOf (part.Register SI) (source.Unary code.SignExtend SI (part.RegisterOrMemory QI)) x → Comes x
  sign_qi_si = one_operand SI refl code.SignExtend (refl, refl) refl x (part.RegisterOrMemory QI) (codes "nonimmediate_operand") QI _ _ _ (λ y is. is) (among_extensions 2 (plain.signs SI QI) refl)

  pub sign_hi_si : IsSetOf (part.Register SI) (source.Unary code.SignExtend SI (part.RegisterOrMemory HI)) x → Comes x
  sign_hi_si = one_operand SI refl code.SignExtend (refl, refl) refl x (part.RegisterOrMemory HI) (codes "nonimmediate_operand") HI _ _ _ (λ y is. is) (among_extensions 3 (plain.signs SI HI) refl)

  pub sign_qi_di : IsSetOf (part.Register DI) (source.Unary code.SignExtend DI (part.RegisterOrMemory QI)) x → Comes x
  sign_qi_di = one_operand DI refl code.SignExtend (refl, refl) refl x (part.RegisterOrMemory QI) (codes "nonimmediate_operand") QI _ _ _ (λ y is. is) (among_extensions 4 (plain.signs DI QI) refl)

  pub sign_hi_di : IsSetOf (part.Register DI) (source.Unary code.SignExtend DI (part.RegisterOrMemory HI)) x → Comes x
  sign_hi_di = one_operand DI refl code.SignExtend (refl, refl) refl x (part.RegisterOrMemory HI) (codes "nonimmediate_operand") HI _ _ _ (λ y is. is) (among_extensions 5 (plain.signs DI HI) refl)

  pub zero_qi_si : IsSetOf (part.Register SI) (source.Unary code.ZeroExtend SI (part.RegisterOrMemory QI)) x → Comes x
  zero_qi_si = one_operand SI refl code.ZeroExtend (refl, refl) refl x (part.RegisterOrMemory QI) (codes "nonimmediate_operand") QI _ _ _ (λ y is. is) (among_extensions 6 (plain.zeros_from_qi SI) refl)

  pub zero_hi_si : IsSetOf (part.Register SI) (source.Unary code.ZeroExtend SI (part.RegisterOrMemory HI)) x → Comes x
  zero_hi_si = one_operand SI refl code.ZeroExtend (refl, refl) refl x (part.RegisterOrMemory HI) (codes "nonimmediate_operand") HI _ _ _ (λ y is. is) (among_extensions 8 (plain.zeros_from_hi SI) refl)

  pub zero_qi_di : IsSetOf (part.Register DI) (source.Unary code.ZeroExtend DI (part.RegisterOrMemory QI)) x → Comes x
  zero_qi_di = one_operand DI refl code.ZeroExtend (refl, refl) refl x (part.RegisterOrMemory QI) (codes "nonimmediate_operand") QI _ _ _ (λ y is. is) (among_extensions 7 (plain.zeros_from_qi DI) refl)

  pub zero_hi_di : IsSetOf (part.Register DI) (source.Unary code.ZeroExtend DI (part.RegisterOrMemory HI)) x → Comes x
  zero_hi_di = one_operand DI refl code.ZeroExtend (refl, refl) refl x (part.RegisterOrMemory HI) (codes "nonimmediate_operand") HI _ _ _ (λ y is. is) (among_extensions 9 (plain.zeros_from_hi DI) refl)

  pub cut_di_qi : IsSetOf (part.Register QI) (source.Unary code.Truncate QI (part.Register DI)) x → Comes x
  cut_di_qi = one_operand QI refl code.Truncate (refl, refl) refl x (part.Register DI) (codes "register_operand") DI _ _ _ (λ y is. is) (among_truncations 0 (plain.truncates DI QI) refl)

  pub cut_di_hi : IsSetOf (part.Register HI) (source.Unary code.Truncate HI (part.Register DI)) x → Comes x
  cut_di_hi = one_operand HI refl code.Truncate (refl, refl) refl x (part.Register DI) (codes "register_operand") DI _ _ _ (λ y is. is) (among_truncations 1 (plain.truncates DI HI) refl)

  pub cut_di_si : IsSetOf (part.Register SI) (source.Unary code.Truncate SI (part.Register DI)) x → Comes x
  cut_di_si = one_operand SI refl code.Truncate (refl, refl) refl x (part.Register DI) (codes "register_operand") DI _ _ _ (λ y is. is) (among_truncations 2 (plain.truncates DI SI) refl)

  pub cut_si_qi : IsSetOf (part.Register QI) (source.Unary code.Truncate QI (part.Register SI)) x → Comes x
  cut_si_qi = one_operand QI refl code.Truncate (refl, refl) refl x (part.Register SI) (codes "register_operand") SI _ _ _ (λ y is. is) (among_truncations 3 (plain.truncates SI QI) refl)

  pub cut_si_hi : IsSetOf (part.Register HI) (source.Unary code.Truncate HI (part.Register SI)) x → Comes x
  cut_si_hi = one_operand HI refl code.Truncate (refl, refl) refl x (part.Register SI) (codes "register_operand") SI _ _ _ (λ y is. is) (among_truncations 4 (plain.truncates SI HI) refl)

-- ---- two operands, of which the second may be a constant

module _ (m : Mode) (moded : IsMode m) (c : Code) (plain_class : IsOperation (class_of_code c)) (role : role_of c ≡ Itself) (x : Rtx) where
  abbrev Set : Part → Type 0
  Set b = IsSetOf (part.Register m) (source.Binary c m (part.Register m) b) x

  operation : (b : Part) (s : Set b) → IsBinary c m (part.Register m) b s.source
  operation b s = is_binary c m moded plain_class s.source s.well_source (part.Register m) b s.is_from

  whole : (b : Part) (s : Set b) (u : IsBinary c m (part.Register m) b s.source) → x ≡ set_rtx s.place (node_of c m (u.left ∷ u.right ∷ []))
  whole b s u = s.is ∙ ap (set_rtx s.place) u.is

  -- where the form takes either
  either_taken : (name : List ℕ) (o : Mode) (constraints : List OperandConstraint) (template : Template) (b : Part) → ((y : Rtx) → is_part b y ≡ true → (register_operand o y || const_int_operand o y) ≡ true) →
      Has plain_forms (insn name (sets m (of_two c m (parts.register 1 m) (parts.register_or_int 2 o))) constraints template) → Set b → Comes x
  either_taken name o constraints template b takes has s =
      let u = operation b s in
      inl (subst (IsMatched plain_forms) (sym (whole b s u))
      (binary_matched name m c role (codes "register_operand") m constraints template (codes "reg_or_int_operand") o has s.place u.left u.right s.is_target u.is_left (register_or_int plain_forms have_plain o u.right (takes u.right u.is_right))))

  -- where it takes a register alone
  registers_taken : (takes : takes_registers c ≡ true) (word : is_word m ≡ true) (name q : List ℕ) (constraints : List OperandConstraint) (template : Template) → ((y : Rtx) → register_operand m y ≡ true → holds plain_forms q y m ≡ true) →
      Has plain_forms (insn name (sets m (of_two c m (parts.operand q 1 m) (parts.register 2 m))) constraints template) → Set (part.RegisterOrConstant m) → Comes x
  registers_taken takes word name q constraints template left has s = by_right (operation (part.RegisterOrConstant m) s)
    where
      by_register : (u : IsBinary c m (part.Register m) (part.RegisterOrConstant m) s.source) (b : Bool) → register_operand m u.right ≡ b → (b || const_int_operand m u.right) ≡ true → Comes x
      by_register u true here is =
          inl (subst (IsMatched plain_forms) (sym (whole (part.RegisterOrConstant m) s u))
          (binary_matched name m c role q m constraints template (codes "register_operand") m has s.place u.left u.right s.is_target (left u.left u.is_left) here))
      by_register u false here is =
          let k = constant_of m u.right is u.well_right in
          inr (inr (IsExpanded.computes c m s.place u.left u.right takes word s.is_target u.is_left k (whole (part.RegisterOrConstant m) s u)))

      by_right : IsBinary c m (part.Register m) (part.RegisterOrConstant m) s.source → Comes x
      by_right u = by_register u (register_operand m u.right) refl u.is_right

-- ---- counts

extended_count : (m : Mode) → is_word m ≡ true → (z : ℤ) → (int_le (pos 0) z && int_lt z (pos (mode_bits m))) ≡ true → is_extended QI z ≡ true
extended_count SI word (pos n) is = grind (arith, nat_tests, is)
extended_count SI word (negsuc n) is = absurd (let no : ⊥ = cc in no)
extended_count DI word (pos n) is = grind (arith, nat_tests, is)
extended_count DI word (negsuc n) is = absurd (let no : ⊥ = cc in no)
extended_count _ word z is = absurd (let no : ⊥ = cc in no)

count_taken : (m : Mode) → is_word m ≡ true → (y : Rtx) → is_count m y ≡ true → (register_operand QI y || const_int_operand QI y) ≡ true
count_taken m word y is = go (register_operand QI y) is
  where
    constant : is_count_in m y ≡ true → const_int_operand QI y ≡ true
    constant here =
        let z = (out-Rtx y).number in
        let two = two_of (is_constant y) (int_le (pos 0) z && int_lt z (pos (mode_bits m))) here in
        ap (λ b. b && is_extended QI z) two.0 ∙ extended_count m word z two.1

    go : (b : Bool) → (b || is_count_in m y) ≡ true → (b || const_int_operand QI y) ≡ true
    go true is = refl
    go false is = constant is

-- ---- the shapes of two operands

module _ (x : Rtx) where
  pub plus_si : IsSetOf (part.Register SI) (source.Binary code.Plus SI (part.Register SI) (part.RegisterOrConstant SI)) x → Comes x
  plus_si = either_taken SI refl code.Plus (refl, refl) refl x _ SI _ _ (part.RegisterOrConstant SI) (λ y is. is) (among_arithmetic 0 (plain.adds SI) refl)

  pub minus_si : IsSetOf (part.Register SI) (source.Binary code.Minus SI (part.Register SI) (part.RegisterOrConstant SI)) x → Comes x
  minus_si = registers_taken SI refl code.Minus (refl, refl) refl x refl refl _ (codes "reg_or_0_operand") _ _ (register_for_0 plain_forms have_plain SI) (among_arithmetic 3 (plain.subs SI) refl)

  pub mult_si : IsSetOf (part.Register SI) (source.Binary code.Mult SI (part.Register SI) (part.RegisterOrConstant SI)) x → Comes x
  mult_si = registers_taken SI refl code.Mult (refl, refl) refl x refl refl _ (codes "register_operand") _ _ (λ y is. is) (among_arithmetic 6 (plain.muls SI) refl)

  pub div_si : IsSetOf (part.Register SI) (source.Binary code.Div SI (part.Register SI) (part.RegisterOrConstant SI)) x → Comes x
  div_si = registers_taken SI refl code.Div (refl, refl) refl x refl refl _ (codes "register_operand") _ _ (λ y is. is) (among_arithmetic 8 (plain.divides SI code.Div) refl)

  pub udiv_si : IsSetOf (part.Register SI) (source.Binary code.Udiv SI (part.Register SI) (part.RegisterOrConstant SI)) x → Comes x
  udiv_si = registers_taken SI refl code.Udiv (refl, refl) refl x refl refl _ (codes "register_operand") _ _ (λ y is. is) (among_arithmetic 9 (plain.divides SI code.Udiv) refl)

  pub mod_si : IsSetOf (part.Register SI) (source.Binary code.Mod SI (part.Register SI) (part.RegisterOrConstant SI)) x → Comes x
  mod_si = registers_taken SI refl code.Mod (refl, refl) refl x refl refl _ (codes "register_operand") _ _ (λ y is. is) (among_arithmetic 10 (plain.divides SI code.Mod) refl)

  pub umod_si : IsSetOf (part.Register SI) (source.Binary code.Umod SI (part.Register SI) (part.RegisterOrConstant SI)) x → Comes x
  umod_si = registers_taken SI refl code.Umod (refl, refl) refl x refl refl _ (codes "register_operand") _ _ (λ y is. is) (among_arithmetic 11 (plain.divides SI code.Umod) refl)

  pub and_si : IsSetOf (part.Register SI) (source.Binary code.And SI (part.Register SI) (part.RegisterOrConstant SI)) x → Comes x
  and_si = either_taken SI refl code.And (refl, refl) refl x _ SI _ _ (part.RegisterOrConstant SI) (λ y is. is) (among_bits 3 (plain.logic SI code.And) refl)

  pub ior_si : IsSetOf (part.Register SI) (source.Binary code.Ior SI (part.Register SI) (part.RegisterOrConstant SI)) x → Comes x
  ior_si = either_taken SI refl code.Ior (refl, refl) refl x _ SI _ _ (part.RegisterOrConstant SI) (λ y is. is) (among_bits 4 (plain.logic SI code.Ior) refl)

  pub xor_si : IsSetOf (part.Register SI) (source.Binary code.Xor SI (part.Register SI) (part.RegisterOrConstant SI)) x → Comes x
  xor_si = either_taken SI refl code.Xor (refl, refl) refl x _ SI _ _ (part.RegisterOrConstant SI) (λ y is. is) (among_bits 5 (plain.logic SI code.Xor) refl)

  pub ashift_si : IsSetOf (part.Register SI) (source.Binary code.Ashift SI (part.Register SI) (part.Count SI)) x → Comes x
  ashift_si = either_taken SI refl code.Ashift (refl, refl) refl x _ QI _ _ (part.Count SI) (count_taken SI refl) (among_bits 9 (plain.shifts SI code.Ashift) refl)

  pub ashiftrt_si : IsSetOf (part.Register SI) (source.Binary code.Ashiftrt SI (part.Register SI) (part.Count SI)) x → Comes x
  ashiftrt_si = either_taken SI refl code.Ashiftrt (refl, refl) refl x _ QI _ _ (part.Count SI) (count_taken SI refl) (among_bits 10 (plain.shifts SI code.Ashiftrt) refl)

  pub lshiftrt_si : IsSetOf (part.Register SI) (source.Binary code.Lshiftrt SI (part.Register SI) (part.Count SI)) x → Comes x
  lshiftrt_si = either_taken SI refl code.Lshiftrt (refl, refl) refl x _ QI _ _ (part.Count SI) (count_taken SI refl) (among_bits 11 (plain.shifts SI code.Lshiftrt) refl)

  pub plus_di : IsSetOf (part.Register DI) (source.Binary code.Plus DI (part.Register DI) (part.RegisterOrConstant DI)) x → Comes x
  plus_di = either_taken DI refl code.Plus (refl, refl) refl x _ DI _ _ (part.RegisterOrConstant DI) (λ y is. is) (among_arithmetic 1 (plain.adds DI) refl)

  pub minus_di : IsSetOf (part.Register DI) (source.Binary code.Minus DI (part.Register DI) (part.RegisterOrConstant DI)) x → Comes x
  minus_di = registers_taken DI refl code.Minus (refl, refl) refl x refl refl _ (codes "reg_or_0_operand") _ _ (register_for_0 plain_forms have_plain DI) (among_arithmetic 4 (plain.subs DI) refl)

  pub mult_di : IsSetOf (part.Register DI) (source.Binary code.Mult DI (part.Register DI) (part.RegisterOrConstant DI)) x → Comes x
  mult_di = registers_taken DI refl code.Mult (refl, refl) refl x refl refl _ (codes "register_operand") _ _ (λ y is. is) (among_arithmetic 7 (plain.muls DI) refl)

  pub div_di : IsSetOf (part.Register DI) (source.Binary code.Div DI (part.Register DI) (part.RegisterOrConstant DI)) x → Comes x
  div_di = registers_taken DI refl code.Div (refl, refl) refl x refl refl _ (codes "register_operand") _ _ (λ y is. is) (among_arithmetic 12 (plain.divides DI code.Div) refl)

  pub udiv_di : IsSetOf (part.Register DI) (source.Binary code.Udiv DI (part.Register DI) (part.RegisterOrConstant DI)) x → Comes x
  udiv_di = registers_taken DI refl code.Udiv (refl, refl) refl x refl refl _ (codes "register_operand") _ _ (λ y is. is) (among_arithmetic 13 (plain.divides DI code.Udiv) refl)

  pub mod_di : IsSetOf (part.Register DI) (source.Binary code.Mod DI (part.Register DI) (part.RegisterOrConstant DI)) x → Comes x
  mod_di = registers_taken DI refl code.Mod (refl, refl) refl x refl refl _ (codes "register_operand") _ _ (λ y is. is) (among_arithmetic 14 (plain.divides DI code.Mod) refl)

  pub umod_di : IsSetOf (part.Register DI) (source.Binary code.Umod DI (part.Register DI) (part.RegisterOrConstant DI)) x → Comes x
  umod_di = registers_taken DI refl code.Umod (refl, refl) refl x refl refl _ (codes "register_operand") _ _ (λ y is. is) (among_arithmetic 15 (plain.divides DI code.Umod) refl)

  pub and_di : IsSetOf (part.Register DI) (source.Binary code.And DI (part.Register DI) (part.RegisterOrConstant DI)) x → Comes x
  and_di = either_taken DI refl code.And (refl, refl) refl x _ DI _ _ (part.RegisterOrConstant DI) (λ y is. is) (among_bits 6 (plain.logic DI code.And) refl)

  pub ior_di : IsSetOf (part.Register DI) (source.Binary code.Ior DI (part.Register DI) (part.RegisterOrConstant DI)) x → Comes x
  ior_di = either_taken DI refl code.Ior (refl, refl) refl x _ DI _ _ (part.RegisterOrConstant DI) (λ y is. is) (among_bits 7 (plain.logic DI code.Ior) refl)

  pub xor_di : IsSetOf (part.Register DI) (source.Binary code.Xor DI (part.Register DI) (part.RegisterOrConstant DI)) x → Comes x
  xor_di = either_taken DI refl code.Xor (refl, refl) refl x _ DI _ _ (part.RegisterOrConstant DI) (λ y is. is) (among_bits 8 (plain.logic DI code.Xor) refl)

  pub ashift_di : IsSetOf (part.Register DI) (source.Binary code.Ashift DI (part.Register DI) (part.Count DI)) x → Comes x
  ashift_di = either_taken DI refl code.Ashift (refl, refl) refl x _ QI _ _ (part.Count DI) (count_taken DI refl) (among_bits 12 (plain.shifts DI code.Ashift) refl)

  pub ashiftrt_di : IsSetOf (part.Register DI) (source.Binary code.Ashiftrt DI (part.Register DI) (part.Count DI)) x → Comes x
  ashiftrt_di = either_taken DI refl code.Ashiftrt (refl, refl) refl x _ QI _ _ (part.Count DI) (count_taken DI refl) (among_bits 13 (plain.shifts DI code.Ashiftrt) refl)

  pub lshiftrt_di : IsSetOf (part.Register DI) (source.Binary code.Lshiftrt DI (part.Register DI) (part.Count DI)) x → Comes x
  lshiftrt_di = either_taken DI refl code.Lshiftrt (refl, refl) refl x _ QI _ _ (part.Count DI) (count_taken DI refl) (among_bits 14 (plain.shifts DI code.Lshiftrt) refl)
