use Rattle.std.proofs.Common.{List, subst, arith}
use Rattle.live_rows.specs.declared.node.Node.{Node}
use Rattle.live_rows.specs.Paths.{HaveRoom, IsLiveRows}
use Rattle.live.proofs.NodeLaws.{AreLiveRows-from, HaveRoom-from}
use Rattle.live.proofs.live_rows_of.Goals as goal

pub returns-clause-live : goal.returns-clause-live
returns-clause-live c =
    let exact = subst (λ (nodes : List Node). IsLiveRows nodes c.in_ok-rows.rows.items) c.as_slice.ensures.value c.in_ok-rows.ensures.live in
    let room = subst (λ (nodes : List Node). HaveRoom nodes c.in_ok-rows.rows.items) c.as_slice.ensures.value c.in_ok-rows.ensures.room in
    AreLiveRows-from c.args.f.now c.in_ok-nodes.nodes c.in_ok-rows.rows.items c.in_ok-nodes.ensures room exact

pub returns-clause-room : goal.returns-clause-room
returns-clause-room c =
    let room = subst (λ (nodes : List Node). HaveRoom nodes c.in_ok-rows.rows.items) c.as_slice.ensures.value c.in_ok-rows.ensures.room in
    HaveRoom-from c.args.f.now c.in_ok-nodes.nodes c.in_ok-rows.rows.items c.in_ok-nodes.ensures room (omega arith)
