use Rattle.std.proofs.Common.{◌≡◌, List, drop}
use Rattle.std.specs.List.{list_all, list_any}
use Rattle.md_forms.specs.declared.form.Entry.{Entry}
use Rattle.md_attr.specs.machine.Tables.{AreAttributesOf}
use Rattle.md_dfa.specs.Test.{test_holds}
use Rattle.md_dfa.proofs.test.+ask.Given as goal

abbrev pub invariant-all_hold-loop-test : goal.invariant-all_hold-loop-test
invariant-all_hold-loop-test l = (forms : List Entry) → AreAttributesOf l.attrs forms → list_all (test_holds forms l.form l.alternative) (drop l.test-index l.tests) ≡ list_all (test_holds forms l.form l.alternative) l.tests

abbrev pub invariant-any_holds-loop-test : goal.invariant-any_holds-loop-test
invariant-any_holds-loop-test l = (forms : List Entry) → AreAttributesOf l.attrs forms → list_any (test_holds forms l.form l.alternative) (drop l.test-index l.tests) ≡ list_any (test_holds forms l.form l.alternative) l.tests
