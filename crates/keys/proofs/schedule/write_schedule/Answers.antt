use Rattle.std.proofs.Common.{rules, ◌<◌, ◌≤◌, drop, length}
use Rattle.keys.proofs.Scheduling.{scheduled_narrow, scheduled_wide}
use Rattle.keys.proofs.schedule.write_schedule.Goals as goal

pub returns-then-parts-gt32 : goal.returns-then-parts-gt32
returns-then-parts-gt32 c =
    let p = c.args.draft.now.parts in
    let key = c.args.key.now in
    let wide : 32 < p.width = search rules in
    let long : 16 ≤ length key = search rules in
    scheduled_wide p key c.write_wide.new.bytes c.expanded.result wide c.args.draft.now.sound.most long c.expanded.ensures c.write_wide.ensures

pub returns-else-parts-gt32 : goal.returns-else-parts-gt32
returns-else-parts-gt32 c =
    let p = c.args.draft.now.parts in
    let key = c.args.key.now in
    let narrow : p.width ≤ 32 = search rules in
    let long : 12 ≤ length key = search rules in
    scheduled_narrow p key (drop 12 c.args.bytes.now) c.write_narrow.new.bytes narrow long c.write_narrow.ensures
