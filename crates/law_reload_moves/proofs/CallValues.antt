-- Each input of a call that tells something has a value, or stands in a low part.
use Rattle.std.proofs.Common.{◌≡◌, ◌≢◌, ◌⊎◌, inl, inr, ℕ, ◌&&◌, ◌||◌, not, if◌then◌else◌, Bool, true, false, List, [], ◌∷◌, ◌++◌, length, map, Option, Some, None, refl, sym, ap, subst, ◌∙◌, arith}
use Rattle.std.proofs.lemmas.Bool.{and_parts, or_cases}
use Rattle.std.specs.List.{flat_map, list_all, list_any}
use Rattle.std.specs.Prelude.{ℤ, pos, option_and_then}
use Rattle.law_operands_fetched.specs.bits64.declared.Width.TheVariants.{W64}
use Rattle.law_operands_fetched.proofs.rtx_tree.Trees.{kids_of-tree}
use Rattle.law_operands_fetched.specs.rtx_tree.Code.{class_of_code, is_effect_class}
use Rattle.law_operands_fetched.specs.rtx_tree.Operands.{put_at}
use Rattle.law_operands_fetched.specs.rtx_tree.Tree.{RtxHead, head_of, kids_of, reg_of}
use Rattle.law_operands_fetched.specs.rtx_tree.declared.class.Class.TheVariants as class
use Rattle.law_operands_fetched.specs.rtx_tree.declared.code.Code.{Code}
use Rattle.law_operands_fetched.specs.rtx_tree.declared.code.Code.TheVariants as code
use Rattle.law_operands_fetched.specs.rtx_tree.declared.code.Mode.{Mode}
use Rattle.law_operands_fetched.specs.rtx_tree.declared.code.Mode.TheVariants.{DI}
use Rattle.law_operands_fetched.specs.rtx_tree.declared.machine.SymbolAt.{SymbolAt}
use Rattle.law_operands_fetched.specs.rtx_tree.declared.memories.MemByte.{MemByte}
use Rattle.law_operands_fetched.specs.rtx_tree.declared.tree.Rtx.{Rtx, out-roll-Rtx}
use Rattle.law_operands_fetched.specs.rtx_tree.declared.tree.Rtx.TheOpen.{Rtx-F}
use Rattle.law_operands_fetched.specs.rtl_func.Kinds.{is_call_by, is_call_tree}
use Rattle.law_operands_fetched.specs.rtl_func.Shapes.{class_at, mode_at, number_at, has_mode, is_operand, is_constant, is_memory_class, is_call_class, is_called, is_effect, fits_row, is_shaped}
use Rattle.law_operands_fetched.proofs.rtl_func.AllPass as nodes
use Rattle.law_operands_fetched.proofs.rtl_func.AllPass.{all_pass}
use Rattle.law_operands_fetched.specs.rtl_step.Call.{target_by, target_of, is_result, is_result_by, call_by, aligned_target, target_value}
use Rattle.law_operands_fetched.specs.rtl_step.Effect.{address_of, address_part}
use Rattle.law_operands_fetched.specs.rtl_step.Regs.{Regs}
use Rattle.law_operands_fetched.specs.rtl_step.Value.{value_of}
use Rattle.law_operands_fetched.specs.md_constr.Inputs.{taken_in, taken_at, taken_by_parts, taken_by}
use Rattle.law_operands_fetched.specs.md_constr.Inputs as inputs
use Rattle.law_operands_fetched.specs.md_match.Pattern.{Ops, role_of}
use Rattle.law_operands_fetched.specs.md_match.declared.role.Role.TheVariants.{Operand, Itself}
use Rattle.law_operands_fetched.specs.assign.declared.home.HomeOf.{HomeOf}
use Rattle.law_operands_fetched.specs.assign.declared.places.Layout.{Layout}
use Rattle.law_operands_fetched.specs.reload_homes.Homes.{homed}
use Rattle.law_operands_fetched.specs.reload_operands.Directions.{has_number, is_input}
use Rattle.law_operands_fetched.specs.reload_operands.Put.{put, parts_by}
use Rattle.law_operands_fetched.proofs.reload_operands.NumberLaws.{has_in_both, has_in_each}
use Rattle.law_operands_fetched.specs.law_operands_replaced.Places.{AtOnePlace, first, later, At, here, inside}
use Rattle.law_operands_fetched.proofs.law_operands_replaced.Addresses.{memory_kid}
use Rattle.law_reload_moves.proofs.Besides.{no_place, beside_head, part_beside}
use Rattle.law_reload_moves.proofs.ElementValues.{taken_role, none_at, one_at}
use Rattle.law_reload_moves.proofs.GivenBeside.{first_of, second_of}
use Rattle.law_reload_moves.proofs.InputPlaces.{is_operator_of, no_operator_of, at_pass}
use Rattle.law_reload_moves.proofs.InputValues.{pattern_other}
use Rattle.law_operands_fetched.proofs.law_operands_replaced.JumpTrees.{row_at, is_bare_class, bare_kids}
use Rattle.law_reload_moves.proofs.JumpValues.{Valued, alone, IsItself, replaced, in_value, constant_there, over_head, untrue', Answer, itself_there, in_target, in_source}
use Rattle.law_operands_fetched.proofs.law_operands_replaced.NewTrees.{is_whole}
use Rattle.law_operands_fetched.proofs.law_operands_replaced.PutParts.{each_put, over_is}
use Rattle.law_reload_moves.proofs.TakenThere.{IsAt, part_at, taken_there}
use Rattle.law_operands_fetched.proofs.law_operands_replaced.Valued.{IsThere, HasValue, operand_valued}
use Rattle.law_operands_fetched.proofs.law_operands_replaced.InsnTurns.{two_of}

-- ---- the parts of a call

pub record IsTarget (symbols : List SymbolAt) (regs : Regs) (m : List MemByte) (v mem size addr : Rtx) : Type 0 where
  pub code_is : (head_of v).code ≡ code.Call
  pub parts : kids_of v ≡ mem ∷ size ∷ []
  pub address : address_of mem ≡ Some addr
  pub there : IsThere (value_of symbols regs m addr W64)

pub data IsCall (symbols : List SymbolAt) (regs : Regs) (m : List MemByte) (x : Rtx) : Type 0 where
  itself : (mem size addr : Rtx) → IsTarget symbols regs m x mem size addr → IsCall symbols regs m x
  sets : (t s mem size addr : Rtx) → (head_of x).code ≡ code.Set → kids_of x ≡ t ∷ s ∷ [] → is_result t ≡ true → IsTarget symbols regs m s mem size addr → IsCall symbols regs m x

module _ (symbols : List SymbolAt) (regs : Regs) (m : List MemByte) where
  abbrev value_at : Option Rtx → Option ℕ
  value_at o = option_and_then (λ target. option_and_then aligned_target (value_of symbols regs m target W64)) o

  value_there : (o v : Option ℕ) (n : ℕ) → v ≡ o → option_and_then aligned_target v ≡ Some n → IsThere v
  value_there o None n is at = absurd (let no : ⊥ = cc in no)
  value_there o (Some a) n is at = (a, refl)

  target_code : (c : Code) (v : Rtx) (kids : List Rtx) (n : ℕ) → (head_of v).code ≡ c → kids_of v ≡ kids → value_at (target_by c kids) ≡ Some n →
      (mem : Rtx) × ((size : Rtx) × ((addr : Rtx) × IsTarget symbols regs m v mem size addr))
  target_code code.Call v (mem ∷ size ∷ []) n is are at = by (address_of mem) refl at
    where
      by : (o : Option Rtx) → address_of mem ≡ o → value_at o ≡ Some n → (mem : Rtx) × ((size : Rtx) × ((addr : Rtx) × IsTarget symbols regs m v mem size addr))
      by None none at = absurd (let no : ⊥ = cc in no)
      by (Some addr) has at = (
        mem,
        (
          size,
          (
            addr,
            record {
              code_is = is;
              parts = are;
              address = has;
              there = value_there (value_of symbols regs m addr W64) (value_of symbols regs m addr W64) n refl at;
            },
          ),
        ),
      )
  target_code _ v kids n is are at = absurd (let no : ⊥ = cc in no)

  target_is : (v : Rtx) (n : ℕ) → value_at (target_of v) ≡ Some n → (mem : Rtx) × ((size : Rtx) × ((addr : Rtx) × IsTarget symbols regs m v mem size addr))
  target_is v n at = target_code (head_of v).code v (kids_of v) n refl refl at

  call_code : (c : Code) (x : Rtx) (kids : List Rtx) (n : ℕ) → (head_of x).code ≡ c → kids_of x ≡ kids → value_at (target_of (call_by c kids x)) ≡ Some n → IsCall symbols regs m x
  call_code code.Set x (t ∷ s ∷ []) n is are at = by (is_result t) refl at
    where
      by : (b : Bool) → is_result t ≡ b → value_at (target_of (if b then s else x)) ≡ Some n → IsCall symbols regs m x
      by true result at = let p = target_is s n at in sets t s p.0 p.1.0 p.1.1.0 is are result p.1.1.1
      by false result at = let p = target_is x n at in itself p.0 p.1.0 p.1.1.0 p.1.1.1
  call_code _ x kids n is are at = let p = target_is x n at in itself p.0 p.1.0 p.1.1.0 p.1.1.1

  pub call_is : (x : Rtx) (n : ℕ) → target_value symbols regs m x ≡ Some n → IsCall symbols regs m x
  call_is x n at = call_code (head_of x).code x (kids_of x) n refl refl at

called_row : (c : Code) (mode : Mode) (number : ℕ) (a b : Rtx) → c ≡ code.Call → fits_row (class_of_code c) mode number (a ∷ b ∷ []) ≡ true → is_called a b ≡ true
called_row code.Call mode number a b is fits = (and_parts (not (has_mode mode)) (is_called a b) fits).1
called_row _ mode number a b is fits = absurd (let no : ⊥ = cc in no)

called : (v mem size : Rtx) → (head_of v).code ≡ code.Call → kids_of v ≡ mem ∷ size ∷ [] → is_shaped v ≡ true → (is_memory_class (class_at mem) ≡ true) × (is_constant size ≡ true)
called v mem size is are shaped =
    let row = ap (λ c. fits_row (class_of_code c) (mode_at v) (number_at v) (mem ∷ size ∷ [])) (sym is) ∙
    ap (fits_row (class_at v) (mode_at v) (number_at v)) (sym are) ∙ row_at v shaped in
    and_parts (is_memory_class (class_at mem)) (is_constant size) (called_row code.Call (mode_at v) (number_at v) mem size refl row)

memory_code_of : (c : Code) (kids : List Rtx) (a : Rtx) → address_part c kids ≡ Some a → (class_of_code c ≡ class.Memory) × (kids ≡ a ∷ [])
memory_code_of code.Mem (b ∷ []) a is = (refl, let same : b ≡ a = cc in ap (λ x. x ∷ []) same)
memory_code_of _ kids a is = absurd (let no : ⊥ = cc in no)

result_bare : (c : Code) (n : ℕ) → is_result_by c n ≡ true → is_bare_class (class_of_code c) ≡ true
result_bare code.Reg n is = refl
result_bare _ n is = absurd (let no : ⊥ = cc in no)

-- where one of two stands
data OfTwo (a b x y q v : Rtx) : Type 0 where
  one : q ≡ a → v ≡ x → OfTwo a b x y q v
  two : q ≡ b → v ≡ y → OfTwo a b x y q v

of_two' : (a b x y q v : Rtx) → AtOnePlace (a ∷ b ∷ []) (x ∷ y ∷ []) q v → OfTwo a b x y q v
of_two' a b x y q v at = by (a ∷ b ∷ []) (x ∷ y ∷ []) q v at refl refl
  where
    by : (ps xs : List Rtx) (q v : Rtx) → AtOnePlace ps xs q v → ps ≡ a ∷ b ∷ [] → xs ≡ x ∷ y ∷ [] → OfTwo a b x y q v
    by _ _ _ _ (first p u ps xs) is is' = one (let e : p ≡ a = cc in e) (let e : u ≡ x = cc in e)
    by _ _ _ _ (later _ _ p u _ _ (first q' v' ps xs)) is is' = two (let e : q' ≡ b = cc in e) (let e : v' ≡ y = cc in e)
    by _ _ _ _ (later _ _ p u _ _ (later q' v' p' u' ps xs more)) is is' = absurd (none_at ps xs q' v' more (let none : xs ≡ [] = cc in none))

module _ (homes : List HomeOf) (layout : Layout) (found : Ops) (symbols : List SymbolAt) (regs : Regs) (m : List MemByte) (k : ℕ) (t3 : Rtx) (mode : Mode) (reg : ℕ)
    (t3_is : t3 ≡ reg_of mode reg) where
  abbrev hm : Rtx → Rtx
  hm = homed homes layout

  abbrev al : Rtx → Rtx → Rtx
  al q z = alone homes layout found symbols regs m k t3 mode reg t3_is q z

  abbrev Mine : Rtx → Type 0
  Mine q = IsItself homes layout found symbols regs m k t3 mode reg t3_is q

  abbrev Has : Rtx → Type 0
  Has y = Valued homes layout found symbols regs m y

  -- in the memory of a call's target
  memory_there : (q1 mem q y : Rtx) → At q1 mem q y → (addr : Rtx) → address_of mem ≡ Some addr → IsThere (value_of symbols regs m addr W64) → all_pass is_shaped mem ≡ true →
      all_pass is_whole mem ≡ true → Mine q → (Mine q1 → ⊥) → Has y
  memory_there _ _ _ _ (here q1 mem) addr has there shaped whole is never = absurd (never is)
  memory_there _ _ _ _ (inside q1 mem p v q y other long at more) addr has there shaped whole is never =
      let c = memory_code_of (head_of mem).code (kids_of mem) addr has in
      let same : v ≡ addr = one_at (kids_of q1) (kids_of mem) p v addr at c.1 in
      let kid = memory_kid mem c.0 (nodes.itself is_shaped mem shaped) in
      let same_kid : kid.0 ≡ addr = (let e : kid.0 ∷ [] ≡ addr ∷ [] = sym kid.1.0 ∙ c.1 in cc) in
      let shaped_a : all_pass is_shaped addr ≡ true = (and_parts (all_pass is_shaped addr) true (sym (ap (list_all (all_pass is_shaped)) c.1) ∙ nodes.within is_shaped mem shaped)).0 in
      let whole_a : all_pass is_whole addr ≡ true = (and_parts (all_pass is_whole addr) true (sym (ap (list_all (all_pass is_whole)) c.1) ∙ nodes.within is_whole mem whole)).0 in
      in_value homes layout found symbols regs m k t3 mode reg t3_is p addr q y (subst (λ v. At p v q y) same more) shaped_a whole_a
      (operand_valued symbols regs m DI addr W64 (nodes.itself is_shaped addr shaped_a) (subst (λ a. is_operand DI a ≡ true) same_kid kid.1.1) refl there)

  register_no_memory : is_memory_class (class_at (reg_of mode reg)) ≡ false
  register_no_memory = ap (λ (o : Rtx-F Rtx). is_memory_class (class_of_code o.code)) (out-roll-Rtx _)

  register_no_call : is_call_class (class_at (reg_of mode reg)) ≡ false
  register_no_call = ap (λ (o : Rtx-F Rtx). is_call_class (class_of_code o.code)) (out-roll-Rtx _)

  two_parts : (b s b1 b2 x z : Rtx) → role_of (head_of b).code ≢ Operand → kids_of b ≡ b1 ∷ b2 ∷ [] → kids_of s ≡ x ∷ z ∷ [] → kids_of (al b s) ≡ al b1 x ∷ al b2 z ∷ []
  two_parts b s b1 b2 x z other are are' =
      ap kids_of (over_is b (put_at [] k t3) s other) ∙ kids_of-tree (head_of s) (parts_by (each_put (kids_of b) (put_at [] k t3)) (kids_of s)) ∙
      ap (λ ps. parts_by (each_put ps (put_at [] k t3)) (kids_of s)) are ∙ ap (parts_by (each_put (b1 ∷ b2 ∷ []) (put_at [] k t3))) are'

  call_place : (b1 b2 mem size addr q1 y1 q y : Rtx) → OfTwo b1 b2 mem size q1 y1 → At q1 y1 q y → Mine q → address_of mem ≡ Some addr →
      IsThere (value_of symbols regs m addr W64) → is_constant size ≡ true → is_memory_class (class_at (al b1 mem)) ≡ true →
      list_all (all_pass is_shaped) (mem ∷ size ∷ []) ≡ true → list_all (all_pass is_whole) (mem ∷ size ∷ []) ≡ true → Has y
  call_place b1 b2 mem size addr q1 y1 q y (one qs ys) at is has there constant memory' shapes wholes =
      memory_there q1 mem q y (subst (λ v. At q1 v q y) ys at) addr has there (and_parts (all_pass is_shaped mem) _ shapes).0 (and_parts (all_pass is_whole mem) _ wholes).0 is
      (λ mine. untrue' homes layout found symbols regs m k t3 mode reg t3_is (is_memory_class (class_at (al q1 mem)))
      (subst (λ b. is_memory_class (class_at (al b mem)) ≡ true) (sym qs) memory')
      (ap (λ z. is_memory_class (class_at z)) (replaced homes layout found symbols regs m k t3 mode reg t3_is q1 mem mine) ∙ register_no_memory))
  call_place b1 b2 mem size addr q1 y1 q y (two qs ys) at is has there constant memory' shapes wholes =
      constant_there homes layout found symbols regs m k t3 mode reg t3_is q1 size q y (subst (λ v. At q1 v q y) ys at) constant
      (and_parts (all_pass is_shaped size) true (and_parts (all_pass is_shaped mem) _ shapes).1).0
      (and_parts (all_pass is_whole size) true (and_parts (all_pass is_whole mem) _ wholes).1).0

  -- in a call
  call_there : (b s q y : Rtx) → At b s q y → (mem size addr : Rtx) → IsTarget symbols regs m s mem size addr → all_pass is_shaped s ≡ true → all_pass is_whole s ≡ true →
      all_pass is_shaped (al b s) ≡ true → Mine q → (Mine b → ⊥) → Has y
  call_there _ _ _ _ (here b s) mem size addr t shaped whole shaped' is never = absurd (never is)
  call_there _ _ _ _ (inside b s q1 y1 q y other long at more) mem size addr t shaped whole shaped' is never =
      let kids = two_of (kids_of b) (long ∙ ap length t.parts) in
      let new_kids = two_parts b s kids.0 kids.1.0 mem size other kids.1.1 t.parts in
      let new_called = called (al b s) (al kids.0 mem) (al kids.1.0 size)
      (ap (λ (h : RtxHead). h.code) (over_head homes layout found symbols regs m k t3 mode reg t3_is b s other) ∙ t.code_is) new_kids (nodes.itself is_shaped (al b s) shaped') in
      call_place kids.0 kids.1.0 mem size addr q1 y1 q y
      (of_two' kids.0 kids.1.0 mem size q1 y1 (subst (λ us. AtOnePlace us (mem ∷ size ∷ []) q1 y1) kids.1.1 (subst (λ vs. AtOnePlace (kids_of b) vs q1 y1) t.parts at)))
      more is t.address t.there (called s mem size t.code_is t.parts (nodes.itself is_shaped s shaped)).1 new_called.0
      (ap (list_all (all_pass is_shaped)) (sym t.parts) ∙ nodes.within is_shaped s shaped) (ap (list_all (all_pass is_whole)) (sym t.parts) ∙ nodes.within is_whole s whole)

  -- ---- a call

  module _ (pattern w : Rtx) (is : IsAt homes layout found pattern w (hm w)) (shaped : all_pass is_shaped (hm w) ≡ true) (whole : all_pass is_whole (hm w) ≡ true)
      (no_op : all_pass (no_operator_of k) pattern ≡ true) (shaped_too : all_pass is_shaped (al pattern (hm w)) ≡ true)
      (calls : is_call_tree (al pattern (hm w)) ≡ true) where
    abbrev x : Rtx
    x = hm w

    abbrev Ends : Type 0
    Ends = Answer homes layout found symbols regs m k t3 mode reg t3_is pattern w

    abbrev mine_there : (q : Rtx) → ((Mine q) ⊎ (is_operator_of k q ≡ true)) → no_operator_of k q ≡ true → Mine q
    mine_there q place none = itself_there homes layout found symbols regs m k t3 mode reg t3_is q place none

    alone_valued : (mem size addr : Rtx) → IsTarget symbols regs m x mem size addr → has_number k (taken_by pattern) ≡ true → Ends
    alone_valued mem size addr t has =
        let role = taken_role k (head_of pattern).code pattern (kids_of pattern) has in
        let effect : is_effect x ≡ true = ap (λ c. is_effect_class (class_of_code c)) t.code_is in
        let h = beside_head homes layout found pattern w x is.made is.tree_is role effect in
        let p_call : (head_of pattern).code ≡ code.Call = ap (λ (h : RtxHead). h.code) (sym h.0) ∙ t.code_is in
        let taken : has_number k (taken_in pattern) ≡ true = sym (ap (λ c. has_number k (taken_by_parts c pattern (kids_of pattern))) p_call) ∙ has in
        elim (taken_there homes layout found pattern w x k is taken) [
          | inl there ↦ inl (record {
            was = there.was;
            found_is = there.found_is;
            has = subst (HasValue symbols regs m) there.tree_is
                (call_there pattern x there.q there.y there.at mem size addr t shaped whole shaped_too
                (mine_there there.q there.place (at_pass (no_operator_of k) pattern x there.q there.y there.at no_op))
                (λ mine. let no : Itself ≡ Operand = sym role ∙ mine.0 in let never : ⊥ = cc in never));
          })
          | inr low ↦ inr low
        ]

    set_valued : (t s mem size addr : Rtx) → (head_of x).code ≡ code.Set → kids_of x ≡ t ∷ s ∷ [] → is_result t ≡ true → IsTarget symbols regs m s mem size addr →
        has_number k (taken_by pattern) ≡ true → Ends
    set_valued t s mem size addr x_set are' result target has =
        let role = taken_role k (head_of pattern).code pattern (kids_of pattern) has in
        let differ : role_of (head_of pattern).code ≢ Operand = λ o. let no : Itself ≡ Operand = sym role ∙ o in let never : ⊥ = cc in never in
        let effect : is_effect x ≡ true = ap (λ c. is_effect_class (class_of_code c)) x_set in
        let none = no_place homes layout found w effect in
        let h = beside_head homes layout found pattern w x is.made is.tree_is role effect in
        let p_set : (head_of pattern).code ≡ code.Set = ap (λ (h : RtxHead). h.code) (sym h.0) ∙ x_set in
        let two = two_of (kids_of pattern) (h.1 ∙ ap length are') in
        let a : Rtx = two.0 in let b : Rtx = two.1.0 in
        let shapes = ap (list_all (all_pass is_shaped)) (sym are') ∙ nodes.within is_shaped x shaped in
        let wholes = ap (list_all (all_pass is_whole)) (sym are') ∙ nodes.within is_whole x whole in
        let shaped_t = (and_parts (all_pass is_shaped t) _ shapes).0 in
        let shaped_s = (and_parts (all_pass is_shaped s) true (and_parts (all_pass is_shaped t) _ shapes).1).0 in
        let whole_s = (and_parts (all_pass is_whole s) true (and_parts (all_pass is_whole t) _ wholes).1).0 in
        let new_kids : kids_of (al pattern x) ≡ al a t ∷ al b s ∷ [] = two_parts pattern x a b t s differ two.1.1 are' in
        let new_set : (head_of (al pattern x)).code ≡ code.Set =
        ap (λ (h : RtxHead). h.code) (over_head homes layout found symbols regs m k t3 mode reg t3_is pattern x differ) ∙ x_set in
        let new_call : is_call_class (class_at (al b s)) ≡ true =
        sym (ap (λ c. is_call_by (class_of_code c) (kids_of (al pattern x))) new_set ∙ ap (is_call_by class.Setting) new_kids) ∙ calls in
        let new_shapes = ap (list_all (all_pass is_shaped)) (sym new_kids) ∙ nodes.within is_shaped (al pattern x) shaped_too in
        let new_shaped_s = (and_parts (all_pass is_shaped (al b s)) true (and_parts (all_pass is_shaped (al a t)) _ new_shapes).1).0 in
        let at_a = first_of a b t s (kids_of pattern) (kids_of x) two.1.1 are' in
        let at_b = second_of a b t s (kids_of pattern) (kids_of x) two.1.1 are' in
        let taken : has_number k (taken_at a ++ taken_in b) ≡ true =
        sym (ap (λ c. has_number k (taken_by_parts c pattern (kids_of pattern))) p_set ∙ ap (λ kids. has_number k (taken_by_parts code.Set pattern kids)) two.1.1) ∙ has in
        elim (or_cases (has_number k (taken_at a)) (has_number k (taken_in b)) (sym (has_in_both k (taken_at a) (taken_in b)) ∙ taken)) [
          | inl inside_a ↦
              let pb = part_beside homes layout found pattern w x a t is.made is.tree_is is.shaped differ none at_a in
              let is_a = part_at homes layout found pattern w x a t is differ none at_a in
              in_target homes layout found symbols regs m k t3 mode reg t3_is pattern w a pb.was t is_a
              (bare_kids t (result_bare (head_of t).code _ result) (nodes.itself is_shaped t shaped_t)) pb.lows inside_a
          | inr source ↦
              let pb = part_beside homes layout found pattern w x b s is.made is.tree_is is.shaped differ none at_b in
              let is_b = part_at homes layout found pattern w x b s is differ none at_b in
              in_source homes layout found symbols regs m k t3 mode reg t3_is pattern w b pb.was s is_b
              (λ there. call_there b s there.q there.y there.at mem size addr target shaped_s whole_s new_shaped_s
              (mine_there there.q there.place (at_pass (no_operator_of k) b s there.q there.y there.at (pass_b a b two.1.1)))
              (λ mine. untrue' homes layout found symbols regs m k t3 mode reg t3_is (is_call_class (class_at (al b s))) new_call
              (ap (λ z. is_call_class (class_at z)) (replaced homes layout found symbols regs m k t3 mode reg t3_is b s mine) ∙ register_no_call))) pb.lows source
        ]
      where
        pass_b : (a b : Rtx) → kids_of pattern ≡ a ∷ b ∷ [] → all_pass (no_operator_of k) b ≡ true
        pass_b a b are = (and_parts (all_pass (no_operator_of k) b) true (and_parts (all_pass (no_operator_of k) a) _
            (sym (ap (list_all (all_pass (no_operator_of k))) are) ∙ nodes.within (no_operator_of k) pattern no_op)).1).0

    only : (b : Bool) → (b || false) ≡ true → b ≡ true
    only true is = refl
    only false is = is

    -- what a call takes has a value
    pub call_valued : (n : ℕ) → target_value symbols regs m x ≡ Some n → is_input pattern k ≡ true → Ends
    call_valued n does input = by (call_is symbols regs m x n does)
      where
        taken : is_effect x ≡ true → (head_of x).code ≢ code.Parallel → has_number k (taken_by pattern) ≡ true
        taken effect other =
            let not_one : (head_of pattern).code ≢ code.Parallel = λ one.
            other (ap (λ (h : RtxHead). h.code) (beside_head homes layout found pattern w x is.made is.tree_is (ap role_of one) effect).0 ∙ one) in
            only (has_number k (taken_by pattern)) (sym (ap (list_any (λ q. has_number k (taken_by q))) (pattern_other pattern not_one)) ∙
            sym (has_in_each k taken_by (inputs.effects_of pattern)) ∙ input)

        by : IsCall symbols regs m x → Ends
        by (itself mem size addr t) = alone_valued mem size addr t (taken (ap (λ c. is_effect_class (class_of_code c)) t.code_is)
            (λ e. let no : code.Call ≡ code.Parallel = sym t.code_is ∙ e in let never : ⊥ = cc in never))
        by (sets t s mem size addr x_set are' result target) = set_valued t s mem size addr x_set are' result target
            (taken (ap (λ c. is_effect_class (class_of_code c)) x_set) (λ e. let no : code.Set ≡ code.Parallel = sym x_set ∙ e in let never : ⊥ = cc in never))
