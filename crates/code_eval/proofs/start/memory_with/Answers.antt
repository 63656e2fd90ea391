use Rattle.code_eval.proofs.Zeros.{made_ordered}
use Rattle.code_eval.proofs.start.memory_with.Goals as goal

pub from_items-requires : goal.from_items-requires
from_items-requires c =
    made_ordered c.args.room c.new-bytes.result.items c.push_zeros.new.bytes.items c.push_zeros-2.new.bytes.items c.from_vec.result c.requires c.new-bytes.ensures.items c.in_ok-push_zeros.ensures c.in_ok-push_zeros-2.ensures c.from_vec.ensures
