-- The symbols of a tree, by those of its kids, and of a chain, by those of its trees.
use Rattle.std.proofs.Common.{◌≡◌, ◌<◌, ◌+◌, ◌^◌, ◌||◌, ℕ, Bool, true, false, if◌then◌else◌, Some, None, List, [], ◌∷◌, ◌++◌, length, drop, get_or, refl, sym, ap, subst, ◌∙◌}
use Rattle.std.proofs.lemmas.List.{at_drop_more}
use Rattle.std.proofs.lemmas.List.Elements.{All-nil, All-cons, All-append}
use Rattle.std.proofs.lemmas.List.Folds.{flat_map-map}
use Rattle.std.specs.Prelude.{is_some}
use Rattle.std.specs.List.{flat_map}
use Rattle.std.specs.Str.{bytes_eq}
use Rattle.run_memory.specs.Symbols.{symbol_address}
use Rattle.rtl_func.specs.Names.{is_among}
use Rattle.rtl_func.specs.declared.names.Names.{Names}
use Rattle.rtx_tree.specs.declared.tree.Rtx.{Rtx}
use Rattle.rtx_tree.specs.declared.tree.Rtx.TheFolds.{fold_out-Rtx}
use Rattle.rtx_tree.specs.Tree.{head_of, kids_of}
use Rattle.rtx_tree.specs.declared.machine.SymbolAt.{SymbolAt}
use Rattle.same_behaviour.specs.Lawful.{IsWord, AreAddresses}
use Rattle.code_eval.specs.World.{symbol_here, symbols_step, symbols_in, with_symbol, with_symbols}

symbols_out : (x : Rtx) → symbols_in x ≡ symbol_here (head_of x).code (head_of x).name ++ flat_map symbols_in (kids_of x)
symbols_out x = fold_out-Rtx (List (List ℕ)) symbols_step x ∙ ap (λ (rest : List (List ℕ)). symbol_here (head_of x).code (head_of x).name ++ rest) (flat_map-map (λ (names : List (List ℕ)). names) symbols_in (kids_of x))

-- some symbols behind others, and more behind those
with_both : (old : List SymbolAt) (a b : List (List ℕ)) → with_symbols old (a ++ b) ≡ with_symbols (with_symbols old a) b
with_both old [] b = refl
with_both old (name ∷ a) b = with_both (with_symbol old name) a b

-- the symbol that a tree is was put behind others
pub symbols_first : (x : Rtx) (old symbols : List SymbolAt) (kids : List Rtx) → symbols ≡ with_symbols old (symbol_here (head_of x).code (head_of x).name) → kids ≡ kids_of x →
    with_symbols symbols (flat_map symbols_in kids) ≡ with_symbols old (symbols_in x)
symbols_first x old symbols kids made is =
    rw made (rw is (rw (symbols_out x) (sym (with_both old (symbol_here (head_of x).code (head_of x).name) (flat_map symbols_in (kids_of x))))))

-- those of one thing more were put behind others
pub symbols_next : {X : Type 0} (f : X → List (List ℕ)) (xs : List X) (i : ℕ) (x : X) (symbols more whole : List SymbolAt) →
    i < length xs → x ≡ get_or xs i x → more ≡ with_symbols symbols (f x) → with_symbols symbols (flat_map f (drop i xs)) ≡ whole → with_symbols more (flat_map f (drop (i + 1) xs)) ≡ whole
symbols_next {X = X} f xs i x symbols more whole within is made h =
    let here : with_symbols symbols (flat_map f (drop i xs)) ≡ with_symbols symbols (f x ++ flat_map f (drop (i + 1) xs)) =
    at_drop_more (λ ys. with_symbols symbols (flat_map f ys)) xs i x within ∙ ap (λ (u : X). with_symbols symbols (flat_map f (u ∷ drop (i + 1) xs))) (sym is) in
    rw made (sym (with_both symbols (f x) (flat_map f (drop (i + 1) xs))) ∙ sym here ∙ h)

-- one more has an address
pub address_pushed : (symbols after : List SymbolAt) (symbol : SymbolAt) → after ≡ symbols ++ symbol ∷ [] → symbol.address < 2 ^ 64 → AreAddresses symbols → AreAddresses after
address_pushed symbols after symbol is fits all =
    let P : SymbolAt → Type 0 = λ s. IsWord s.address in
    subst AreAddresses (sym is) (All-append P symbols (symbol ∷ []) all (All-cons P symbol [] fits (All-nil P)))

-- a symbol has an address where it had one, or is the last
address_behind : (symbols : List SymbolAt) (last : SymbolAt) (name : List ℕ) → is_some (symbol_address (symbols ++ last ∷ []) name) ≡ (is_some (symbol_address symbols name) || bytes_eq last.name name)
address_behind [] last name = by (bytes_eq last.name name)
  where
    by : (same : Bool) → is_some (if same then Some last.address else None) ≡ (false || same)
    by true = refl
    by false = refl
address_behind (s ∷ symbols) last name = by (address_behind symbols last name) (bytes_eq s.name name)
  where
    by : is_some (symbol_address (symbols ++ last ∷ []) name) ≡ (is_some (symbol_address symbols name) || bytes_eq last.name name) → (same : Bool) →
        is_some (if same then Some s.address else symbol_address (symbols ++ last ∷ []) name) ≡ (is_some (if same then Some s.address else symbol_address symbols name) || bytes_eq last.name name)
    by rest true = refl
    by rest false = rest

-- with one more symbol, and its name among the names, the names are still those of the symbols
pub named_pushed : (symbols after : List SymbolAt) (names more : Names) (symbol : SymbolAt) (text : List ℕ) → symbol.name ≡ text → after ≡ symbols ++ symbol ∷ [] →
    ((name : List ℕ) → is_among more name ≡ (is_among names name || bytes_eq text name)) → ((name : List ℕ) → is_among names name ≡ is_some (symbol_address symbols name)) →
    (name : List ℕ) → is_among more name ≡ is_some (symbol_address after name)
named_pushed symbols after names more symbol text same is put all name =
    put name ∙ (ap (λ t. is_among names name || bytes_eq t name) (sym same) ∙ (ap (λ b. b || bytes_eq symbol.name name) (all name)
    ∙ (sym (address_behind symbols symbol name) ∙ ap (λ s. is_some (symbol_address s name)) (sym is))))
