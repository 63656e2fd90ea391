-- How many plain forms there are, and under which heads and names they stand, in their order.
use Rattle.std.proofs.Common.{◌≡◌, ℕ, List, [], ◌∷◌, length, map, codes, Option, Some, None, refl}
use Rattle.md_forms.specs.declared.form.Entry.{Entry}
use Rattle.plain_forms.specs.Forms.{plain_forms}

pub count : length plain_forms ≡ 100
unfolding plain_forms
count = refl

abbrev pub heads : List (List ℕ)
heads =
    codes "define_constraint" ∷ codes "define_constraint" ∷ codes "define_constraint" ∷
    codes "define_constraint" ∷ codes "define_predicate" ∷ codes "define_predicate" ∷
    codes "define_predicate" ∷ codes "define_expand" ∷ codes "define_expand" ∷
    codes "define_expand" ∷ codes "define_expand" ∷ codes "define_insn" ∷ codes "define_insn" ∷
    codes "define_insn" ∷ codes "define_insn" ∷ codes "define_insn" ∷ codes "define_insn" ∷
    codes "define_insn" ∷ codes "define_insn" ∷ codes "define_insn" ∷ codes "define_insn" ∷
    codes "define_insn" ∷ codes "define_insn" ∷ codes "define_insn" ∷ codes "define_insn" ∷
    codes "define_insn" ∷ codes "define_insn" ∷ codes "define_insn" ∷ codes "define_insn" ∷
    codes "define_insn" ∷ codes "define_insn" ∷ codes "define_insn" ∷ codes "define_insn" ∷
    codes "define_insn" ∷ codes "define_insn" ∷ codes "define_insn" ∷
    codes "define_insn_and_split" ∷ codes "define_insn" ∷ codes "define_insn" ∷
    codes "define_insn" ∷ codes "define_insn" ∷ codes "define_insn" ∷ codes "define_insn" ∷
    codes "define_insn" ∷ codes "define_insn" ∷ codes "define_insn" ∷ codes "define_insn" ∷
    codes "define_insn" ∷ codes "define_insn" ∷ codes "define_insn" ∷ codes "define_insn" ∷
    codes "define_insn" ∷ codes "define_insn" ∷ codes "define_insn" ∷ codes "define_insn" ∷
    codes "define_insn" ∷ codes "define_insn" ∷ codes "define_insn" ∷ codes "define_insn" ∷
    codes "define_insn" ∷ codes "define_insn" ∷ codes "define_insn" ∷ codes "define_insn" ∷
    codes "define_insn" ∷ codes "define_insn" ∷ codes "define_insn" ∷ codes "define_insn" ∷
    codes "define_insn" ∷ codes "define_insn" ∷ codes "define_insn" ∷ codes "define_insn" ∷
    codes "define_insn" ∷ codes "define_insn" ∷ codes "define_insn" ∷ codes "define_insn" ∷
    codes "define_insn" ∷ codes "define_insn" ∷ codes "define_insn" ∷ codes "define_insn" ∷
    codes "define_insn" ∷ codes "define_insn" ∷ codes "define_insn" ∷ codes "define_insn" ∷
    codes "define_insn" ∷ codes "define_insn" ∷ codes "define_insn" ∷ codes "define_insn" ∷
    codes "define_insn" ∷ codes "define_insn" ∷ codes "define_insn" ∷ codes "define_insn" ∷
    codes "define_expand" ∷ codes "define_expand" ∷ codes "define_insn" ∷ codes "define_expand" ∷
    codes "define_insn" ∷ codes "define_insn" ∷ codes "define_insn" ∷ codes "define_insn" ∷
    codes "define_peephole2" ∷ []

abbrev pub names : List (Option (List ℕ))
names =
    Some (codes "I") ∷ Some (codes "J") ∷ Some (codes "K") ∷ Some (codes "L") ∷
    Some (codes "reg_or_0_operand") ∷ Some (codes "reg_or_int_operand") ∷
    Some (codes "call_operand") ∷ Some (codes "movqi") ∷ Some (codes "movhi") ∷
    Some (codes "movsi") ∷ Some (codes "movdi") ∷ Some (codes "*frame") ∷ Some (codes "*movdi") ∷
    Some (codes "*movqi") ∷ Some (codes "*movhi") ∷ Some (codes "*movsi") ∷ Some (codes "addsi3") ∷
    Some (codes "adddi3") ∷ Some (codes "*addsi3_x") ∷ Some (codes "subsi3") ∷
    Some (codes "subdi3") ∷ Some (codes "*subsi3_x") ∷ Some (codes "mulsi3") ∷
    Some (codes "muldi3") ∷ Some (codes "divsi3") ∷ Some (codes "udivsi3") ∷
    Some (codes "modsi3") ∷ Some (codes "umodsi3") ∷ Some (codes "divdi3") ∷
    Some (codes "udivdi3") ∷ Some (codes "moddi3") ∷ Some (codes "umoddi3") ∷
    Some (codes "negsi2") ∷ Some (codes "negdi2") ∷ Some (codes "one_cmplsi2") ∷
    Some (codes "one_cmpldi2") ∷ Some (codes "*and_mask") ∷ Some (codes "andsi3") ∷
    Some (codes "iorsi3") ∷ Some (codes "xorsi3") ∷ Some (codes "anddi3") ∷ Some (codes "iordi3") ∷
    Some (codes "xordi3") ∷ Some (codes "ashlsi3") ∷ Some (codes "ashrsi3") ∷
    Some (codes "lshrsi3") ∷ Some (codes "ashldi3") ∷ Some (codes "ashrdi3") ∷
    Some (codes "lshrdi3") ∷ Some (codes "*ashlsi3_x") ∷ Some (codes "*ashrsi3_x") ∷
    Some (codes "*lshrsi3_x") ∷ Some (codes "extendsidi2") ∷ Some (codes "zero_extendsidi2") ∷
    Some (codes "extendqisi2") ∷ Some (codes "extendhisi2") ∷ Some (codes "extendqidi2") ∷
    Some (codes "extendhidi2") ∷ Some (codes "zero_extendqisi2") ∷
    Some (codes "zero_extendqidi2") ∷ Some (codes "zero_extendhisi2") ∷
    Some (codes "zero_extendhidi2") ∷ Some (codes "truncdiqi2") ∷ Some (codes "truncdihi2") ∷
    Some (codes "truncdisi2") ∷ Some (codes "truncsiqi2") ∷ Some (codes "truncsihi2") ∷
    Some (codes "*less") ∷ Some (codes "*less") ∷ Some (codes "*less") ∷ Some (codes "*less") ∷
    Some (codes "*more") ∷ Some (codes "*more") ∷ Some (codes "*more") ∷ Some (codes "*more") ∷
    Some (codes "*atleast") ∷ Some (codes "*atleast") ∷ Some (codes "*atleast") ∷
    Some (codes "*atleast") ∷ Some (codes "*atmost") ∷ Some (codes "*atmost") ∷
    Some (codes "*atmost") ∷ Some (codes "*atmost") ∷ Some (codes "*eqs0") ∷ Some (codes "*eqs0") ∷
    Some (codes "*eqs0") ∷ Some (codes "*eqs0") ∷ Some (codes "*eqs") ∷ Some (codes "*eqs") ∷
    Some (codes "*eqs") ∷ Some (codes "*eqs") ∷ Some (codes "cstoredi4") ∷
    Some (codes "cstoresi4") ∷ Some (codes "cbranchdi4") ∷ Some (codes "cbranchsi4") ∷
    Some (codes "jump") ∷ Some (codes "call") ∷ Some (codes "call_value") ∷ Some (codes "return") ∷
    None ∷ []

pub heads_are : map (λ e. e.head) plain_forms ≡ heads
unfolding plain_forms
heads_are = refl

pub names_are : map (λ e. e.name) plain_forms ≡ names
unfolding plain_forms
names_are = refl
