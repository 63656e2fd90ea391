-- The image of functions, from what its parts gave.
use Rattle.std.proofs.Common.{◌≡◌, ◌<◌, ℕ, List, [], ◌∷◌, ◌++◌, length, get_or, Result, Ok, Err, Vec, refl, sym, ap, subst, ◌∙◌, arith}
use Rattle.std.specs.declared.alloc.Global.{Global}
use Rattle.rtx_tree.specs.declared.function.Function.{Function}
use Rattle.rtx_tree.specs.declared.limit.Limit.TheVariants as limit
use Rattle.rv_text.specs.declared.line.CodeItem.{CodeItem}
use Rattle.rv_image.specs.Image.{IsImage, IsTooLong}
use Rattle.rv_image.specs.declared.image.CodeUnit.{CodeUnit}
use Rattle.rv_image.specs.declared.image.Image.{Image}
use Rattle.image_text.specs.Text.{image_text}
use Rattle.run_refusal.specs.declared.refusal.Refusal.{Refusal}
use Rattle.run_refusal.specs.declared.refusal.Refusal.TheVariants as refusal
use Rattle.pass_name.specs.declared.road.Road.TheVariants.{Usual}
use Rattle.md_forms.specs.declared.form.Entry.{Entry}
use Rattle.func_input.specs.Input.{FunctionsComeTo, RefusesWith}
use Rattle.func_input.specs.Outcome.{Outcome, Gives}
use Rattle.func_input.proofs.Comes.{gives_map}
use Rattle.func_input.proofs.Refusing.{refuses_map}
use Rattle.law_assembly.specs.func_text.declared.assembly.Assembly.{Assembly}
use Rattle.law_assembly.specs.func_text.Assembly as assembly
use Rattle.law_assembly.specs.func_text.Assembly.{AssemblyComes}
use Rattle.law_assembly.specs.func_text.Compile.{FunctionsCome}
use Rattle.law_assembly.proofs.func_text.CodeLaws.{has_assembly}
use Rattle.func_image.specs.Image.{units_of, UnitsCome, WordsCome}

-- a function with its lines
abbrev unit_of : Function → List CodeItem → CodeUnit
unit_of f items = record { name = f.name; items = items }

-- without lines there are none
pub no_units : (functions : List Function) → units_of functions [] ≡ []
no_units [] = refl
no_units (f ∷ functions) = refl

-- one function more has its lines
pub units_push : (functions : List Function) (parts : List (List CodeItem)) (items : List CodeItem) (f : Function) → length parts < length functions → f ≡ get_or functions (length parts) f →
    units_of functions (parts ++ items ∷ []) ≡ units_of functions parts ++ record { name = f.name; items = items } ∷ []
units_push [] parts items f within is = absurd (omega (arith, within))
units_push (g ∷ functions) [] items f within is =
    ap (λ (us : List CodeUnit). unit_of g items ∷ us) (no_units functions) ∙ ap (λ (h : Function). unit_of h items ∷ []) (sym is)
units_push (g ∷ functions) (p ∷ parts) items f within is =
    ap (λ (us : List CodeUnit). unit_of g p ∷ us) (units_push functions parts items f (omega (arith, within)) is)

-- ---- units

pub text_comes : (units : List CodeUnit) (image : Image) (text : List ℕ) → IsImage units image → text ≡ image_text image → UnitsCome units (Ok text)
text_comes units image text is same = subst (λ (t : List ℕ). UnitsCome units (Ok t)) (sym same) (UnitsCome.written image is)

pub size_comes : (units : List CodeUnit) (size : ℕ) → IsTooLong units size → UnitsCome units (Err (refusal.Limit limit.Image size))
size_comes units size long = UnitsCome.too_long size long

-- ---- functions

err_of : (forms : List Entry) (functions : List Function) (o : assembly.Outcome) (e : Refusal) → o ≡ Err e → FunctionsCome forms Usual functions o → FunctionsComeTo (WordsCome forms) functions (Err e)
err_of forms functions _ e is (FunctionsComeTo.refused d first) = subst (λ (x : Refusal). FunctionsComeTo (WordsCome forms) functions (Err x)) (let same : d ≡ e = cc in same) (FunctionsComeTo.refused d first)
err_of forms functions _ e is (FunctionsComeTo.admitted o none own) = FunctionsComeTo.admitted (Err e) none (WordsCome.refused e (subst (AssemblyComes forms Usual functions) is own))

-- what refused the assembly refuses the image
pub image_refused : (forms : List Entry) (functions : List Function) (e : Refusal) → RefusesWith e (FunctionsCome forms Usual functions) → RefusesWith e (FunctionsComeTo (WordsCome forms) functions)
image_refused forms functions e h = refuses_map e (FunctionsCome forms Usual functions) (FunctionsComeTo (WordsCome forms) functions) (λ e comes. err_of forms functions (Err e) e refl comes) h

-- what the lines of the assembly came to, the functions come to
pub image_comes : (forms : List Entry) (functions : List Function) (a : Assembly) (units : List CodeUnit) (r : Result (Vec ℕ Global) Refusal) → FunctionsCome forms Usual functions (Ok a) → units ≡ units_of functions a.parts → Gives r (UnitsCome units) → Gives r (FunctionsComeTo (WordsCome forms) functions)
image_comes forms functions a units r comes is h =
    let has = has_assembly forms functions (Ok a) a refl comes in
    gives_map r (UnitsCome units) (FunctionsComeTo (WordsCome forms) functions)
    (λ o own. FunctionsComeTo.admitted o has.admitted (WordsCome.assembled a o has.own (subst (λ (us : List CodeUnit). UnitsCome us o) is own))) h
