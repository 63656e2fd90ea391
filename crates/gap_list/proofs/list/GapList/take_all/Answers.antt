use Rattle.std.proofs.Common.{◌≡◌, ◌++◌, length, reverse, ap, ◌∙◌}
use Rattle.gap_list.proofs.GapLaws.{none_behind, all_in_front, long_parts}
use Rattle.gap_list.proofs.list.GapList.take_all.Goals as goal

pub returns-clause-all : goal.returns-clause-all
returns-clause-all g c =
    let was = c.self.inside in
    let front = c.shift.new.front.items in
    let back = c.shift.new.back.items in
    let whole : front ++ reverse back ≡ c.args.self.now = c.shift.ensures.same ∙ c.self.view_is in
    let long : length front ≡ length c.args.self.now =
    long_parts was.front.items was.back.items c.args.self.now c.len.result c.len-2.result (length front) c.self.view_is
    (c.len.ensures ∙ was.front.ok.0) (c.len-2.ensures ∙ was.back.ok.0) c.in_ok-shift.ensures.there in
    c.from_vec.ensures ∙
    (ap (λ v. v.items) c.replace-front.ensures.value ∙ all_in_front front back c.args.self.now whole long)

pub returns-clause-ok : goal.returns-clause-ok
returns-clause-ok g c =
    let was = c.self.inside in
    let front = c.shift.new.front.items in
    let back = c.shift.new.back.items in
    let whole : front ++ reverse back ≡ c.args.self.now = c.shift.ensures.same ∙ c.self.view_is in
    let long : length front ≡ length c.args.self.now =
    long_parts was.front.items was.back.items c.args.self.now c.len.result c.len-2.result (length front) c.self.view_is
    (c.len.ensures ∙ was.front.ok.0) (c.len-2.ensures ∙ was.back.ok.0) c.in_ok-shift.ensures.there in
    ap (λ v. v.items ++ reverse back) c.replace-front.ensures.after ∙
    (ap (λ l. l ++ reverse back) c.new.ensures.items ∙
    ap reverse (none_behind front back c.args.self.now whole long))
