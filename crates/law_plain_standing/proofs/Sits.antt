-- How operands of each sort stand where letters take registers, and what they need.
use Rattle.std.proofs.Common.{◌≡◌, ℕ, pos, Bool, true, false, ◌&&◌, List, [], ◌∷◌, Option, Some, None, refl, sym, ap, subst, ◌∙◌}
use Rattle.std.specs.Prelude.{ℤ, if◌then◌else◌}
use Rattle.rtx_tree.specs.declared.code.Mode.{Mode}
use Rattle.rtx_tree.specs.declared.tree.Rtx.{Rtx}
use Rattle.md_operand.specs.Operand.{is_register, is_far}
use Rattle.md_operand.specs.Operand as operand
use Rattle.md_text.specs.declared.constraint.Member.{Member}
use Rattle.md_text.specs.declared.constraint.Alternative.{Alternative}
use Rattle.md_forms.specs.declared.form.Entry.{Entry}
use Rattle.reload_operands.specs.declared.operand.Base.{Base}
use Rattle.reload_operands.specs.declared.operand.Operand.{Operand}
use Rattle.reload_moves.specs.declared.fitting.Standing.{Standing}
use Rattle.reload_moves.specs.declared.fitting.Standing.TheVariants.{Stays, Far, Moves}
use Rattle.reload_moves.specs.declared.fitting.Needs.{Needs}
use Rattle.reload_fit.specs.Addressed.{far_offset}
use Rattle.reload_fit.specs.Fitting.{Asks, admitted_as, shown, is_based, slot_far_of, needs_of, standing_of, fitting_at}
use Rattle.plain_forms.specs.Parts.{alternative}
use Rattle.law_plain_untied.proofs.Parts.{stands, settled}
use Rattle.law_plain_untied.proofs.Asked as registers
use Rattle.law_plain_known.specs.Registers.{IsTrueRegister}
use Rattle.law_plain_known.proofs.Trees.{register_taken, both_true}
use Rattle.law_plain_standing.proofs.Sorts as sorts
use Rattle.law_plain_standing.proofs.Sorts.{Sort, tree, base, IsMemory, IsNear, IsOther}
use Rattle.law_plain_standing.proofs.Shown.{not_far, no_offset, shown_itself, shown_other, shown_unfixed}
use Rattle.law_plain_standing.proofs.Asked.{IsAsked, TakeRegisters, Meets}
use Rattle.law_plain_standing.proofs.Standings.{standing_is, admitted_is, fitting_is}

-- a register, but virtual-stack-vars
abbrev pub IsTrue : Sort → Type 0
IsTrue (sorts.register m reg) = IsTrueRegister reg
IsTrue _ = Unit {0}

-- a register, or a slot that is the home of one
abbrev pub IsHome : Sort → Type 0
IsHome (sorts.register m reg) = Unit {0}
IsHome (sorts.slot m address) = Unit {0}
IsHome _ = ⊥

registered : (m : Mode) (reg : ℕ) → IsTrueRegister reg → is_register (tree (sorts.register m reg)) ≡ true
registered m reg other = first (is_register (tree (sorts.register m reg))) (operand.has_mode m (tree (sorts.register m reg))) (register_taken m reg other)
  where
    first : (p q : Bool) → (p && q) ≡ true → p ≡ true
    first true q is = refl
    first false q is = cc

module _ (forms : List Entry) (asks : Asks) (k : ℕ) (ms : List Member) (take : TakeRegisters forms ms) (i : IsAsked forms asks k ms) (mode : Mode) (input output changed other : Bool) (operands : List Operand) (place : ℕ) where
  abbrev pub the : Sort → Operand
  the s = sorts.operand k s mode input output changed other

  abbrev asked : Option Alternative
  asked = Some (alternative i.direction ms)

  -- whether the letters admit it
  abbrev is_taken : Sort → Bool
  is_taken s = Meets forms (shown asked (the s)) ms

  stands_as : (s : Sort) (b : Bool) → is_taken s ≡ b → standing_of asks operands (the s) ≡ (if b then admitted_as (tree s) else Moves)
  stands_as s b is =
      standing_is forms asks k ms take.letters i s mode input output changed other operands ∙
      ap (λ b. if b then admitted_as (tree s) else Moves) (admitted_is forms asks k ms take.letters i s mode input output changed other operands ∙ is)

  stays : (s : Sort) → IsNear s → is_taken s ≡ true → standing_of asks operands (the s) ≡ Stays
  stays s near is = stands_as s true is ∙ ap (λ b. if b then Far else Stays) (not_far s near)

  moves : (s : Sort) → is_taken s ≡ false → standing_of asks operands (the s) ≡ Moves
  moves s is = stands_as s false is

  -- ---- what it needs

  abbrev needs : Bool → Option ℤ → Option ℤ → Needs
  needs has slot_far far = registers.needs input output has slot_far far

  needs_of_sort : (s : Sort) → needs_of (asks.asked k) (the s) ≡ needs (is_based asked (the s)) (slot_far_of (base s)) (far_offset (tree s))
  needs_of_sort s = ap (λ o. needs_of o (the s)) i.asked_is

  needs_nothing : (s : Sort) → IsNear s → needs_of (asks.asked k) (the s) ≡ needs false None None
  needs_nothing (sorts.register m reg) near = needs_of_sort (sorts.register m reg) ∙ ap (needs false None) (no_offset (sorts.register m reg) tt)
  needs_nothing (sorts.number z) near = needs_of_sort (sorts.number z) ∙ ap (needs false None) (no_offset (sorts.number z) tt)
  needs_nothing (sorts.symbol z name) near = needs_of_sort (sorts.symbol z name) ∙ ap (needs false None) (no_offset (sorts.symbol z name) tt)
  needs_nothing (sorts.slot m address) near = absurd near
  needs_nothing (sorts.memory m address b) near = absurd near

  -- ---- it fits

  abbrev Fits : Sort → Standing → Needs → Type 0
  Fits s standing n = fitting_at asks operands place (the s) ≡ stands place standing n

  fits : (s : Sort) (standing : Standing) (n : Needs) → standing_of asks operands (the s) ≡ standing → needs_of (asks.asked k) (the s) ≡ n → Fits s standing n
  fits s standing n one also = fitting_is forms asks k ms take.letters i s mode input output changed other operands place standing n one also

  register_admitted : (m : Mode) (reg : ℕ) → IsTrueRegister reg → is_taken (sorts.register m reg) ≡ true
  register_admitted m reg is = ap (λ x. Meets forms x ms) (shown_itself asked k mode input output changed other (sorts.register m reg) tt) ∙ take.registers (tree (sorts.register m reg)) (registered m reg is)

  memory_refused : (s : Sort) → IsMemory s → IsOther s → is_taken s ≡ false
  memory_refused s memory is =
      take.others (shown asked (the s)) (shown_other asked k mode input output changed other s is) (shown_unfixed asked k mode input output changed other s memory)

  -- moved or not, an operand without a base
  pub record Sits (s : Sort) : Type 0 where
    pub moved : Bool
    pub far : Option ℤ
    -- what stays is not far
    pub near_if : moved ≡ false → far ≡ None
    pub is : Fits s (settled moved) (needs false None far)

  pub register_fits : (m : Mode) (reg : ℕ) → IsTrueRegister reg → Fits (sorts.register m reg) Stays (needs false None None)
  register_fits m reg is = fits (sorts.register m reg) Stays (needs false None None) (stays (sorts.register m reg) tt (register_admitted m reg is)) (needs_nothing (sorts.register m reg) tt)

  pub register_sits : (m : Mode) (reg : ℕ) → IsTrueRegister reg → Sits (sorts.register m reg)
  register_sits m reg is = record { moved = false; far = None; near_if = λ stays. refl; is = register_fits m reg is }

  pub slot_fits : (m : Mode) (address : Rtx) → Fits (sorts.slot m address) Moves (needs false None (far_offset (tree (sorts.slot m address))))
  slot_fits m address =
      fits (sorts.slot m address) Moves (needs false None (far_offset (tree (sorts.slot m address)))) (moves (sorts.slot m address) (memory_refused (sorts.slot m address) tt tt)) (needs_of_sort (sorts.slot m address))

  pub slot_sits : (m : Mode) (address : Rtx) → Sits (sorts.slot m address)
  slot_sits m address = record { moved = true; far = far_offset (tree (sorts.slot m address)); near_if = λ never. absurd (let no : ⊥ = cc in no); is = slot_fits m address }

  -- a constant or a symbol stays where it is admitted
  near_sits : (s : Sort) → IsNear s → (b : Bool) → is_taken s ≡ b → Sits s
  near_sits s near true is = record { moved = false; far = None; near_if = λ stays. refl; is = fits s Stays (needs false None None) (stays s near is) (needs_nothing s near) }
  near_sits s near false is = record { moved = true; far = None; near_if = λ stays. refl; is = fits s Moves (needs false None None) (moves s is) (needs_nothing s near) }

  pub number_sits : (z : ℤ) → Sits (sorts.number z)
  number_sits z = near_sits (sorts.number z) tt (is_taken (sorts.number z)) refl

  pub symbol_sits : (z : ℤ) (name : List ℕ) → Sits (sorts.symbol z name)
  symbol_sits z name = near_sits (sorts.symbol z name) tt (is_taken (sorts.symbol z name)) refl

  pub home_sits : (s : Sort) → IsTrue s → IsHome s → Sits s
  home_sits (sorts.register m reg) is home = register_sits m reg is
  home_sits (sorts.slot m address) is home = slot_sits m address
  home_sits (sorts.number z) is home = absurd home
  home_sits (sorts.symbol z name) is home = absurd home
  home_sits (sorts.memory m address b) is home = absurd home

  -- ---- memory is moved, whatever its base

  pub record Comes (s : Sort) : Type 0 where
    pub has : Bool
    pub slot_far : Option ℤ
    pub far : Option ℤ
    pub is : Fits s Moves (needs has slot_far far)

  pub memory_comes : (m : Mode) (address : Rtx) (b : Option Base) → Comes (sorts.memory m address b)
  memory_comes m address b =
      let s = sorts.memory m address b in
      record {
        has = is_based asked (the s);
        slot_far = slot_far_of b;
        far = far_offset (tree s);
        is = fits s Moves (needs (is_based asked (the s)) (slot_far_of b) (far_offset (tree s))) (moves s (memory_refused s tt tt)) (needs_of_sort s);
      }
