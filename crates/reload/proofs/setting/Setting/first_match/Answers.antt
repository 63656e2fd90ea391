use Rattle.form_needs.specs.Needs.{lower_facts}
use Rattle.reload.proofs.Matching.{recognizes}
use Rattle.reload.proofs.setting.Setting.first_match.Goals as goal

pub returns : goal.returns
returns c =
    recognizes c.args.self.now.desc.now c.lower_facts.result lower_facts c.args.x.now c.recog.result
    c.lower_facts.ensures
    c.recog.ensures.first c.recog.ensures.none
