use Rattle.std.proofs.Common.{refl, ap, ◌∙◌}
use Rattle.book.specs.Rows.{coding_of}
use Rattle.book.specs.declared.role.Role.TheVariants.{Clear}
use Rattle.release.specs.Coder.{one_back}
use Rattle.release.specs.Views.{meanings_of, setup_of, plain_setup}
use Rattle.release.proofs.Marks.{turned_back, role_there}
use Rattle.release.proofs.plain.Plain.turn_code.Goals as goal

pub returns : goal.returns
returns g c =
    let o = c.args.self.now in
    let m = meanings_of g.Y.Coding.means g.H.Coding.means c.args.codings.now in
    let t = turned_back (setup_of o m) (plain_setup o) o.taken c.args.memory.now c.args.entry c.in_ok-code.code refl refl c.in_ok-code.ensures in
    let role = role_there _ o.columns c.args.entry.column _ Clear c.as_slice.ensures.roles t.0 in
    c.back_in.ensures ∙ ap (λ r. one_back (coding_of m r) c.in_ok-code.code) role ∙ t.1
