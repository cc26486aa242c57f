use Rattle.std.proofs.Common.{◌≡◌, ◌-◌, ◌*◌, ◌/◌, ◌%◌, ◌^◌, ◌<◌, ◌≤◌, sym, ap, ◌∙◌, mod-lt, arith, pow_pos}
use lib.Bits.{bit_or}
use Rattle.bits.specs.Words.{turned, turned_left}
use Rattle.bits.proofs.Words.{mod_wrapped, turned_or, turned_none}
use Rattle.bits.proofs.width.Width.turn.Goals as goal

pub returns-then-j-eq0 : goal.returns-then-j-eq0
unfolding turned_left
returns-then-j-eq0 c =
    let n = c.args.self.bits in
    let j = c.args.k % n in
    let y = c.args.x % 2 ^ n in
    let none : turned n j y ≡ y = ap (λ j. turned n j y) c.if-j-eq0.true ∙ turned_none n y (mod-lt c.args.x (pow_pos n)) in
    c.cut-y.ensures ∙ sym none

pub returns : goal.returns
unfolding turned_left
returns c =
    let n = c.args.self.bits in
    let j = c.args.k % n in
    let y = c.cut-y.result in
    let below : j < n = mod-lt c.args.k c.args.self.some in
    let part : j ≤ n = omega arith in
    let small : y < 2 ^ n = rw c.cut-y.ensures (mod-lt c.args.x (pow_pos n)) in
    let up : c.cut.result ≡ y * 2 ^ j % 2 ^ n = c.cut.ensures ∙ mod_wrapped n 64 (y * 2 ^ j) c.args.self.fits in
    ap (λ l. bit_or l (y / 2 ^ (n - j))) up ∙ turned_or n j y part small ∙ ap (turned n j) c.cut-y.ensures
