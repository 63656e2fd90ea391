-- Which names were asked for, while the trees of a file are gone through.
use Rattle.std.proofs.Common.{◌≡◌, ◌≢◌, ℕ, ◌⊎◌, ◌↔◌, List, [], ◌∷◌, ◌++◌, Option, Some, None, Ok, refl, sym, ap, subst, ◌∙◌, append_assoc, append-nil, inl, inr, ⊎_elim, arith, Contains}
use Rattle.std.proofs.lemmas.List.Elements.{Contains-append_left, Contains-append_right}
use Rattle.byte_edge.specs.Fetched.{Grows}
use Rattle.lisp_read.specs.declared.tree.Tree.{Tree}
use Rattle.md_source.specs.declared.trees.Gathered.{Gathered}
use Rattle.md_source.specs.Include.{included_name}
use Rattle.md_source.specs.Source.{Source, shipped_name, text_of}
use Rattle.md_source.specs.Asked.{MayInclude, WasRead, MayAsk, AreNamed, GrewBy}
use Rattle.md_source.specs.Answers.{Agrees}
use Rattle.md_source.specs.machine.Steps.{FileReads, AsksFile}

-- names that may be asked for, and the file's own is read already
abbrev pub IsRead : Source → List ℕ → List (List ℕ) → Type 0
IsRead source name names = AreNamed source name names × WasRead names name

-- each include among some trees is one of the file
abbrev pub AreOf : Source → List ℕ → List Tree → Type 0
AreOf source name trees = (t : Tree) (n : List ℕ) → Contains trees t → included_name t ≡ Some n → MayInclude source name n

pub are_of : (source : Source) (used : ℕ) (name : List ℕ) (read : Gathered) → FileReads source used name (Ok read) → AreOf source name read.trees
are_of source used name read reads t n stands is = by_known (text_of source name) refl
  where
    by_known : (known : Option (List ℕ)) → text_of source name ≡ known → MayInclude source name n
    by_known None none = inr none
    by_known (Some text) known = inl (record { text = text; known = known; trees = read.trees; reads = (reads text known).2; tree = t; stands = stands; names = is })

pub first_of : (source : Source) (name : List ℕ) (t : Tree) (left rest : List Tree) (n : List ℕ) → left ≡ t ∷ rest → included_name t ≡ Some n → AreOf source name left → MayInclude source name n
first_of source name t left rest n front is of = subst (λ (l : List Tree). AreOf source name l) front of t n (0, omega arith, refl) is

pub rest_of : (source : Source) (name : List ℕ) (t : Tree) (left rest : List Tree) → left ≡ t ∷ rest → AreOf source name left → AreOf source name rest
rest_of source name t left rest front of u n stands is = subst (λ (l : List Tree). AreOf source name l) front of u n (Contains-append_right (t ∷ []) rest u stands) is

-- what was read before is read after
still_read : (names more : List (List ℕ)) (n : List ℕ) → WasRead names n → WasRead (names ++ more) n
still_read names more n (inl shipped) = inl shipped
still_read names more n (inr stands) = inr (Contains-append_left names more n stands)

read_behind : (names more : List (List ℕ)) (n : List ℕ) → WasRead more n → WasRead (names ++ more) n
read_behind names more n (inl shipped) = inl shipped
read_behind names more n (inr stands) = inr (Contains-append_right names more n stands)

-- what an included file may ask for, the file that includes it may
may_within : (source : Source) (name n : List ℕ) (names more : List (List ℕ)) (m : List ℕ) → WasRead names name → MayInclude source name n → MayAsk source n more m → MayAsk source name (names ++ more) m
may_within source name n names more _ read inc MayAsk.itself = MayAsk.included name n MayAsk.itself (still_read names more name read) inc
may_within source name n names more _ read inc (MayAsk.included k m ask was other) = MayAsk.included k m (may_within source name n names more k read inc ask) (read_behind names more k was) other

named_within : (source : Source) (name n : List ℕ) (names more : List (List ℕ)) → IsRead source name names → MayInclude source name n → AreNamed source n more → AreNamed source name (names ++ more)
named_within source name n names _ read inc AreNamed.none = subst (λ (ns : List (List ℕ)). AreNamed source name ns) (sym (append-nil names)) read.0
named_within source name n names _ read inc (AreNamed.more ms m before ask other) =
    subst (λ (ns : List (List ℕ)). AreNamed source name ns) (append_assoc names ms (m ∷ []))
    (AreNamed.more (names ++ ms) m (named_within source name n names ms read inc before) (may_within source name n names ms m read.1 inc ask) other)

-- ---- lists of names that are told, or are not

pub grew_none : (source : Source) (name : List ℕ) (before now : Option (List (List ℕ))) → now ≡ before → GrewBy (AreNamed source name) before now
grew_none source name None now is = tt
grew_none source name (Some xs) None is = cc
grew_none source name (Some xs) (Some ys) is = let same : ys ≡ xs = cc in ([], same ∙ sym (append-nil xs), AreNamed.none)

grew_own : (source : Source) (name : List ℕ) (before now : Option (List (List ℕ))) → name ≢ shipped_name → Grows before now name → GrewBy (IsRead source name) before now
grew_own source name None now other grows = tt
grew_own source name (Some xs) None other grows = absurd grows
grew_own source name (Some xs) (Some ys) other grows =
    (name ∷ [], grows, (AreNamed.more [] name AreNamed.none MayAsk.itself other, inr (0, omega arith, refl)))

grew_shipped : (source : Source) (name : List ℕ) (before now : Option (List (List ℕ))) → name ≡ shipped_name → now ≡ before → GrewBy (IsRead source name) before now
grew_shipped source name None now same is = tt
grew_shipped source name (Some xs) None same is = cc
grew_shipped source name (Some xs) (Some ys) same is = let kept : ys ≡ xs = cc in ([], kept ∙ sym (append-nil xs), (AreNamed.none, inl same))

pub grew_read : (source : Source) (name : List ℕ) (before now : Option (List (List ℕ))) → AsksFile before now name → GrewBy (IsRead source name) before now
grew_read source name before now (AsksFile.shipped same is) = grew_shipped source name before now same is
grew_read source name before now (AsksFile.asked other grows) = grew_own source name before now other grows

pub grew_named : (source : Source) (name : List ℕ) (before now : Option (List (List ℕ))) → GrewBy (IsRead source name) before now → GrewBy (AreNamed source name) before now
grew_named source name None now grew = tt
grew_named source name (Some xs) None grew = absurd grew
grew_named source name (Some xs) (Some ys) grew = (grew.0, grew.1, grew.2.0)

pub grew_refused : (source : Source) (name : List ℕ) (before now : Option (List (List ℕ))) → AsksFile before now name ⊎ (now ≡ before) → GrewBy (AreNamed source name) before now
grew_refused source name before now asks =
    ⊎_elim (λ (file : AsksFile before now name). grew_named source name before now (grew_read source name before now file)) (λ (same : now ≡ before). grew_none source name before now same) asks

pub grew_within : (source : Source) (name n : List ℕ) (before mid now : Option (List (List ℕ))) → MayInclude source name n → GrewBy (IsRead source name) before mid → GrewBy (AreNamed source n) mid now → GrewBy (IsRead source name) before now
grew_within source name n None mid now inc grew more = tt
grew_within source name n (Some xs) None now inc grew more = absurd grew
grew_within source name n (Some xs) (Some ys) None inc grew more = absurd more
grew_within source name n (Some xs) (Some ys) (Some zs) inc grew more =
    (grew.0 ++ more.0, more.1 ∙ ap (λ (l : List (List ℕ)). l ++ more.0) grew.1 ∙ append_assoc xs grew.0 more.0, (named_within source name n grew.0 more.0 grew.2 inc more.2, still_read grew.0 more.0 name grew.2.1))

-- ---- files that stay as they are

pub agrees_still : (source : Source) (old now : List ℕ → List ℕ → Type 0) → ((n bytes : List ℕ) → now n bytes ↔ old n bytes) → Agrees source old → Agrees source now
agrees_still source old now same agrees n bytes known = (same n bytes).1 (agrees n bytes known)

pub same_still : (old mid now : List ℕ → List ℕ → Type 0) → ((n bytes : List ℕ) → mid n bytes ↔ old n bytes) → ((n bytes : List ℕ) → now n bytes ↔ mid n bytes) → (n bytes : List ℕ) → now n bytes ↔ old n bytes
same_still old mid now first later n bytes = (λ h. (first n bytes).0 ((later n bytes).0 h), λ h. (later n bytes).1 ((first n bytes).1 h))
