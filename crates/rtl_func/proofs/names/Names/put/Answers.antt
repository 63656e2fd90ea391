use Rattle.std.proofs.Common.{◌≡◌, rules}
use Rattle.rtl_func.proofs.NameLaws.{put}
use Rattle.rtl_func.proofs.names.Names.put.Goals as goal

pub returns : goal.returns
returns c other =
    let text = c.in_ok-from_slice.field-0 in
    let is : text.items ≡ c.args.name.now = search rules in
    put c.in_ok-insert.field-0 c.args.self.now.texts.keys c.insert.new.self.keys text c.args.name.now other is c.in_ok-insert.ensures.added c.in_ok-insert.ensures.keys
