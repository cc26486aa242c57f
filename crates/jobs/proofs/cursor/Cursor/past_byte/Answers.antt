use Rattle.std.proofs.Common.{◌≡◌, ◌+◌, ◌∷◌, ◌<◌, length, get_or, drop, sym, ap, subst, ◌∙◌, arith}
use Rattle.jobs.proofs.Faults.{first_is}
use Rattle.jobs.specs.Places.{First}
use Rattle.jobs.specs.Signs.{squeezed, code_of}
use Rattle.jobs.proofs.Squeezed.{past_sign_at, filled}
use Rattle.jobs.proofs.cursor.Cursor.past_byte.Goals as goal

pub returns-then-rest-byte-clause-read : goal.returns-then-rest-byte-clause-read
returns-then-rest-byte-clause-read c =
    let s = c.args.self in
    let bs = s.source.bytes.now in
    let long : 0 < length c.rest-rest.result.now = filled _ (sym c.is_empty.ensures ∙ c.if-not-is_empty.true) in
    let low : s.at < length bs = omega arith in
    let first : get_or (drop s.at bs) 0 0 ≡ code_of c.args.sign = ap (λ z. get_or z 0 0) (sym c.rest-rest.ensures.bytes) ∙ c.if-rest-byte.true ∙ c.byte.ensures in
    let further : drop (s.at + 1) bs ≡ drop c.past.result.at c.past.result.source.bytes.now =
    ap (λ k. drop k bs) (sym c.past.ensures.at) ∙ ap (λ z. drop c.past.result.at z.bytes.now) (sym c.past.ensures.same) in
    record {
      same = c.past.ensures.same;
      text = past_sign_at bs s.at c.args.sign low first ∙ ap (λ d. code_of c.args.sign ∷ squeezed d) further;
    }

pub returns-then-rest-byte-clause-first : goal.returns-then-rest-byte-clause-first
returns-then-rest-byte-clause-first c =
    let long : 0 < length c.rest-rest.result.now = filled _ (sym c.is_empty.ensures ∙ c.if-not-is_empty.true) in
    subst (First (code_of c.args.sign)) c.rest-rest.ensures.bytes (first_is c.rest-rest.result.now (code_of c.args.sign) long (c.if-rest-byte.true ∙ c.byte.ensures))
