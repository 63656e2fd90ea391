-- What a name comes to, it comes to alone, and a function with its code is one of the assembly's.
use Rattle.std.proofs.Common.{◌≡◌, ℕ, true, List, length, Ok, Err, Option, Some, None, is_some, refl, sym, ap, subst, ◌∙◌}
use Rattle.rtx_tree.specs.declared.function.Function.{Function}
use Rattle.rv_text.specs.declared.line.CodeItem.{CodeItem}
use Rattle.run_refusal.specs.declared.refusal.Refusal.{Refusal}
use Rattle.run_refusal.specs.declared.refusal.Refusal.TheVariants as refusal
use Rattle.pass_name.specs.declared.road.Road.TheVariants.{Usual}
use Rattle.md_forms.specs.declared.form.Entry.{Entry}
use Rattle.func_input.specs.Refused.{first_refused}
use Rattle.func_input.specs.Input.{IsRead, IsInput, FunctionsComeTo, RefusesWith}
use Rattle.func_input.proofs.One.{one_read}
use Rattle.func_input.proofs.Inputs.{admitted_last}
use Rattle.func_text.specs.declared.assembly.Assembly.{Assembly}
use Rattle.func_text.specs.declared.code.Coded.{Coded}
use Rattle.func_text.specs.Assembly.{Outcome, AssemblyComes}
use Rattle.func_text.specs.Compile.{FunctionsCome, InputComes}
use Rattle.func_text.specs.Code.{Answer, Gives, place_named, has_named, IsCodedAt, NameComes, CodeComes, IsCoded}
use Rattle.func_text.proofs.OneAssembly.{one_assembly, one_coming, one_coming_of}
use Rattle.func_text.proofs.Laws.{is_assembly, are_parts, parts_count, same_assembly}

-- ---- one answer

no_place : (o : Option ℕ) (place : ℕ) → o ≡ Some place → o ≡ None → ⊥
no_place o place p q = cc

err_apart : (e : Refusal) (a : Assembly) → ◌≡◌ {A = Outcome} (Err e) (Ok a) → ⊥
err_apart e a is = let none : ⊥ = cc in none

same_err : (e d : Refusal) → ◌≡◌ {A = Outcome} (Err e) (Err d) → ◌≡◌ {A = Answer} (Err e) (Err d)
same_err e d is = ap (λ (x : Refusal). Err x) (let same : e ≡ d = cc in same)

same_coded : (functions : List Function) (a : Assembly) (place : ℕ) (c d : Coded) → IsCodedAt functions a place c → IsCodedAt functions a place d → c ≡ d
same_coded functions a place c d p q =
    let one : c.function ≡ d.function = (let e : Some c.function ≡ Some d.function = sym p.function ∙ q.function in cc) in
    let two : c.items ≡ d.items = (let e : Some c.items ≡ Some d.items = sym p.items ∙ q.items in cc) in
    ap (λ (f : Function). record { function = f; items = c.items }) one ∙ ap (λ (i : List CodeItem). record { function = d.function; items = i }) two

module _ (forms : List Entry) where
  one_name : (functions : List Function) (name : List ℕ) (a b : Answer) → NameComes forms functions name a → NameComes forms functions name b → a ≡ b
  one_name functions name _ _ (NameComes.unnamed missing) (NameComes.unnamed missing') = refl
  one_name functions name _ _ (NameComes.unnamed missing) (NameComes.refused place e held comes) = absurd (no_place (place_named functions name) place held missing)
  one_name functions name _ _ (NameComes.unnamed missing) (NameComes.coded place x c held comes at) = absurd (no_place (place_named functions name) place held missing)
  one_name functions name _ _ (NameComes.refused place e held comes) (NameComes.unnamed missing) = absurd (no_place (place_named functions name) place held missing)
  one_name functions name _ _ (NameComes.refused place e held comes) (NameComes.refused place' d held' comes') = same_err e d (one_coming forms Usual functions (Err e) (Err d) comes comes')
  one_name functions name _ _ (NameComes.refused place e held comes) (NameComes.coded place' x c held' comes' at) = absurd (err_apart e x (one_coming forms Usual functions (Err e) (Ok x) comes comes'))
  one_name functions name _ _ (NameComes.coded place x c held comes at) (NameComes.unnamed missing) = absurd (no_place (place_named functions name) place held missing)
  one_name functions name _ _ (NameComes.coded place x c held comes at) (NameComes.refused place' e held' comes') = absurd (err_apart e x (one_coming forms Usual functions (Err e) (Ok x) comes' comes))
  one_name functions name _ _ (NameComes.coded place x c held comes at) (NameComes.coded place' y d held' comes' at') =
      let whole : x ≡ y = same_assembly x y (one_coming forms Usual functions (Ok x) (Ok y) comes comes') in
      let here : place ≡ place' = (let e : Some place ≡ Some place' = sym held ∙ held' in cc) in
      ap (λ (k : Coded). Ok k) (same_coded functions y place' c d (subst (λ (p : ℕ). IsCodedAt functions y p c) here (subst (λ (z : Assembly). IsCodedAt functions z place c) whole at)) at')

  pub one_code : (bytes name : List ℕ) (a b : Answer) → CodeComes forms bytes name a → CodeComes forms bytes name b → a ≡ b
  one_code bytes name _ _ (CodeComes.unread e never comes) (CodeComes.unread d never' comes') = same_err e d (one_coming_of forms Usual bytes (Err e) (Err d) comes comes')
  one_code bytes name _ _ (CodeComes.unread e never comes) (CodeComes.read functions b reads comes') = absurd (never functions reads)
  one_code bytes name _ _ (CodeComes.read functions a reads comes) (CodeComes.unread e never comes') = absurd (never functions reads)
  one_code bytes name _ _ (CodeComes.read functions a reads comes) (CodeComes.read functions' b reads' comes') =
      one_name functions' name a b (subst (λ fs. NameComes forms fs name a) (one_read bytes functions functions' reads reads') comes) comes'

  -- ---- what was coded

  -- functions that have an assembly
  pub record HasAssembly (functions : List Function) (a : Assembly) : Type 0 where
    pub admitted : first_refused functions ≡ None
    pub own : AssemblyComes forms Usual functions (Ok a)

  pub has_assembly : (functions : List Function) (o : Outcome) (a : Assembly) → o ≡ Ok a → FunctionsCome forms Usual functions o → HasAssembly functions a
  has_assembly functions _ a is (FunctionsComeTo.refused e first) = absurd (let none : ⊥ = cc in none)
  has_assembly functions _ a is (FunctionsComeTo.admitted o none own) = record { admitted = none; own = subst (AssemblyComes forms Usual functions) is own }

  -- each of them has its part
  pub parts_of : (functions : List Function) (a : Assembly) → FunctionsCome forms Usual functions (Ok a) → length a.parts ≡ length functions
  parts_of functions a comes = let has = has_assembly functions (Ok a) a refl comes in parts_count forms Usual 0 functions a (is_assembly forms Usual functions a has.own)

  coded_of : (bytes name : List ℕ) (c : Coded) (functions : List Function) (a : Answer) → IsRead bytes functions → a ≡ Ok c → NameComes forms functions name a → IsCoded forms bytes name c
  coded_of bytes name c functions _ reads is (NameComes.unnamed missing) = absurd (let none : ⊥ = cc in none)
  coded_of bytes name c functions _ reads is (NameComes.refused place e held comes) = absurd (let none : ⊥ = cc in none)
  coded_of bytes name c functions _ reads is (NameComes.coded place a d held comes at) =
      let has = has_assembly functions (Ok a) a refl comes in
      let lines = is_assembly forms Usual functions a has.own in
      record {
        functions = functions;
        input = record { read = reads; admitted = has.admitted };
        assembly = a;
        is_assembly = lines;
        are = are_parts forms Usual 0 functions a lines;
        place = place;
        named = held;
        coded = subst (IsCodedAt functions a place) (let same : d ≡ c = cc in same) at;
      }

  pub code_coded : (bytes name : List ℕ) (c : Coded) (a : Answer) → a ≡ Ok c → CodeComes forms bytes name a → IsCoded forms bytes name c
  code_coded bytes name c _ is (CodeComes.unread e never comes) = absurd (let none : ⊥ = cc in none)
  code_coded bytes name c _ is (CodeComes.read functions a reads comes) = coded_of bytes name c functions a reads is comes

  -- ---- inputs that have an assembly

  not_missing : (o : Option ℕ) → is_some o ≡ true → o ≡ None → ⊥
  not_missing None is missing = cc
  not_missing (Some place) is missing = cc

  name_has : (functions : List Function) (name : List ℕ) (x : Assembly) (a : Answer) → first_refused functions ≡ None → AssemblyComes forms Usual functions (Ok x) → has_named functions name ≡ true → NameComes forms functions name a → (c : Coded) × (a ≡ Ok c)
  name_has functions name x _ none own named (NameComes.unnamed missing) = absurd (not_missing (place_named functions name) named missing)
  name_has functions name x _ none own named (NameComes.refused place e held comes) =
      absurd (err_apart e x (one_assembly forms Usual functions (Err e) (Ok x) (admitted_last (AssemblyComes forms Usual) functions (Err e) none comes) own))
  name_has functions name x _ none own named (NameComes.coded place a c held comes at) = (c, refl)

  -- a function of an input that has an assembly has its code
  pub code_has : (bytes name : List ℕ) (functions : List Function) (x : Assembly) (a : Answer) → IsInput bytes functions → AssemblyComes forms Usual functions (Ok x) → has_named functions name ≡ true → CodeComes forms bytes name a → (c : Coded) × (a ≡ Ok c)
  code_has bytes name functions x _ input own named (CodeComes.unread e never comes) = absurd (never functions input.read)
  code_has bytes name functions x _ input own named (CodeComes.read functions' a reads comes) =
      let same : functions' ≡ functions = one_read bytes functions' functions reads input.read in
      name_has functions name x a input.admitted own named (subst (λ fs. NameComes forms fs name a) same comes)

  -- ---- from what the calls gave

  -- what refuses the functions refuses the name
  pub name_refused : (functions : List Function) (name : List ℕ) (place : ℕ) (e : Refusal) → place_named functions name ≡ Some place → RefusesWith e (FunctionsCome forms Usual functions) → Gives (Err e) (NameComes forms functions name)
  name_refused functions name place refusal.Memory named h = tt
  name_refused functions name place refusal.Usage named h = absurd h
  name_refused functions name place refusal.ReadFault named h = absurd h
  name_refused functions name place refusal.WriteFault named h = absurd h
  name_refused functions name place (refusal.Syntax file at) named h = NameComes.refused place (refusal.Syntax file at) named h
  name_refused functions name place (refusal.Construct at told) named h = NameComes.refused place (refusal.Construct at told) named h
  name_refused functions name place (refusal.IllFormed function uid rule) named h = NameComes.refused place (refusal.IllFormed function uid rule) named h
  name_refused functions name place (refusal.Limit which count) named h = NameComes.refused place (refusal.Limit which count) named h
  name_refused functions name place (refusal.Unmatched function uid stage insn) named h = NameComes.refused place (refusal.Unmatched function uid stage insn) named h
  name_refused functions name place (refusal.Unsatisfied function uid form insn) named h = NameComes.refused place (refusal.Unsatisfied function uid form insn) named h
  name_refused functions name place (refusal.NotEquated function uid rule item left right) named h = NameComes.refused place (refusal.NotEquated function uid rule item left right) named h

  -- what refuses the bytes before they are functions refuses the name
  pub unread_refused : (bytes name : List ℕ) (e : Refusal) → ((e ≡ refusal.Memory → ⊥) → (functions : List Function) → IsRead bytes functions → ⊥) → RefusesWith e (InputComes forms Usual bytes) → Gives (Err e) (CodeComes forms bytes name)
  unread_refused bytes name refusal.Memory never h = tt
  unread_refused bytes name refusal.Usage never h = absurd h
  unread_refused bytes name refusal.ReadFault never h = absurd h
  unread_refused bytes name refusal.WriteFault never h = absurd h
  unread_refused bytes name (refusal.Syntax file at) never h = CodeComes.unread (refusal.Syntax file at) (never (λ is. cc)) h
  unread_refused bytes name (refusal.Construct at told) never h = CodeComes.unread (refusal.Construct at told) (never (λ is. cc)) h
  unread_refused bytes name (refusal.IllFormed function uid rule) never h = CodeComes.unread (refusal.IllFormed function uid rule) (never (λ is. cc)) h
  unread_refused bytes name (refusal.Limit which count) never h = CodeComes.unread (refusal.Limit which count) (never (λ is. cc)) h
  unread_refused bytes name (refusal.Unmatched function uid stage insn) never h = CodeComes.unread (refusal.Unmatched function uid stage insn) (never (λ is. cc)) h
  unread_refused bytes name (refusal.Unsatisfied function uid form insn) never h = CodeComes.unread (refusal.Unsatisfied function uid form insn) (never (λ is. cc)) h
  unread_refused bytes name (refusal.NotEquated function uid rule item left right) never h = CodeComes.unread (refusal.NotEquated function uid rule item left right) (never (λ is. cc)) h

-- what a name came to among the functions, it comes to in the bytes
pub gives_map : (answer : Answer) (P Q : Answer → Type 0) → ((a : Answer) → P a → Q a) → Gives answer P → Gives answer Q
gives_map (Ok c) P Q follows h = follows (Ok c) h
gives_map (Err refusal.Memory) P Q follows h = tt
gives_map (Err refusal.ReadFault) P Q follows h = absurd h
gives_map (Err refusal.WriteFault) P Q follows h = absurd h
gives_map (Err refusal.Usage) P Q follows h = follows (Err refusal.Usage) h
gives_map (Err (refusal.Syntax file place)) P Q follows h = follows (Err (refusal.Syntax file place)) h
gives_map (Err (refusal.Construct place name)) P Q follows h = follows (Err (refusal.Construct place name)) h
gives_map (Err (refusal.IllFormed function uid rule)) P Q follows h = follows (Err (refusal.IllFormed function uid rule)) h
gives_map (Err (refusal.Limit which count)) P Q follows h = follows (Err (refusal.Limit which count)) h
gives_map (Err (refusal.Unmatched function uid stage insn)) P Q follows h = follows (Err (refusal.Unmatched function uid stage insn)) h
gives_map (Err (refusal.Unsatisfied function uid form insn)) P Q follows h = follows (Err (refusal.Unsatisfied function uid form insn)) h
gives_map (Err (refusal.NotEquated function uid rule item left right)) P Q follows h = follows (Err (refusal.NotEquated function uid rule item left right)) h
