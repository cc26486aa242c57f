use Rattle.std.proofs.Common.{rules, ◌≡◌, ◌+◌, ◌-◌, ◌*◌, ◌^◌, arith}
use Rattle.flows.specs.Strings.{byte_bit, number_at}
use Rattle.flows.proofs.Ciphers.{byte_bits}
use Rattle.flows.proofs.Cutting.{number_below}
use Rattle.keys.proofs.Bytes.{number_none, number_more, number_short}
use Rattle.keys.proofs.strings.number_at.Goals as goal

pub loop-i-init : goal.loop-i-init
loop-i-init c = number_none (byte_bit c.args.bytes.now) (c.args.from + c.args.bits) c.args.bits

pub overflow_add-number : goal.overflow_add-number
overflow_add-number c =
    let i = c.loop-i.i in
    let s = byte_bit c.args.bytes.now in
    let more = number_more s c.args.from i c.args.bits (omega arith) (omega arith) in
    let short = number_short c.args.bytes.now (c.args.from + (i - 1)) (c.args.bits - (i - 1)) (omega arith) in
    let same : c.bit_at.result + 2 * c.loop-i.number ≡ number_at s (c.args.from + (i - 1)) (c.args.bits - (i - 1)) = cc in
    search rules

pub loop-i-preserved : goal.loop-i-preserved
loop-i-preserved c =
    let i = c.loop-i.i in
    let s = byte_bit c.args.bytes.now in
    let more = number_more s c.args.from i c.args.bits (omega arith) (omega arith) in
    let same : c.bit_at.result + 2 * c.loop-i.number ≡ number_at s (c.args.from + (i - 1)) (c.args.bits - (i - 1)) = cc in
    omega arith

pub overflow_mul-number : goal.overflow_mul-number
overflow_mul-number c =
    let i = c.loop-i.i in
    let s = byte_bit c.args.bytes.now in
    let more = number_more s c.args.from i c.args.bits (omega arith) (omega arith) in
    let short = number_short c.args.bytes.now (c.args.from + (i - 1)) (c.args.bits - (i - 1)) (omega arith) in
    let same : s (c.args.from + (i - 1)) + 2 * c.loop-i.number ≡ number_at s (c.args.from + (i - 1)) (c.args.bits - (i - 1)) = cc in
    search rules

pub returns-clause-small : goal.returns-clause-small
returns-clause-small c =
    let i : c.loop-i.i ≡ 0 = omega arith in
    let below = number_below (byte_bit c.args.bytes.now) (byte_bits c.args.bytes.now) (c.args.from + c.loop-i.i) (c.args.bits - c.loop-i.i) in
    let e : c.args.bits - c.loop-i.i ≡ c.args.bits = omega arith in
    let f : 2 ^ (c.args.bits - c.loop-i.i) ≡ 2 ^ c.args.bits = cc in
    omega arith
