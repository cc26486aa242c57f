use Rattle.std.proofs.Common.{◌≡◌, ℕ, List, Ok, Result, refl, sym, ap, ◌∙◌, subst, arith}
use Rattle.std.proofs.lemmas.Result.{err_from_is_err_and}
use Rattle.spelling.specs.declared.fault.Fault.{Fault}
use Rattle.spelling.specs.Reading.{Reading, Turn}
use Rattle.spelling.specs.Turns.{start, turn}
use Rattle.spelling.proofs.Advancing.{advances}
use Rattle.spelling.proofs.Accepted.{told}
use Rattle.spelling.proofs.Looping.{kept_start, kept_more, kept_done, kept_fault}
use Rattle.draft.specs.Readers.{reading_of, led}
use Rattle.draft.proofs.read.parts_of.Goals as goal

-- the reader's own bytes are the draft's
turned : (bytes own : List ℕ) (s : Reading) (t : Result Turn Fault) → own ≡ bytes → t ≡ turn own s → turn bytes s ≡ t
turned bytes own s t of e = subst (λ b. turn b s ≡ t) of (sym e)

pub returns-in_err-reader : goal.returns-in_err-reader
returns-in_err-reader c =
    let p = err_from_is_err_and c.from_residual.result c.from_residual.ensures.1 in
    let e = kept_fault c.args.bytes.now start _ (kept_start c.args.bytes.now start refl) (sym c.in_err-reader.ensures.leads) in
    rw (p.1, p.2) (told c.args.bytes.now _ e)

pub loop-parts-init : goal.loop-parts-init
loop-parts-init c = record {
  of = ap (λ b. b.now) c.in_ok-reader.ensures.of;
  kept = kept_more c.args.bytes.now start _ (kept_start c.args.bytes.now start refl) (sym c.in_ok-reader.ensures.leads);
}

pub returns-in_err-parts : goal.returns-in_err-parts
returns-in_err-parts c =
    let p = err_from_is_err_and c.from_residual-in_err-parts.result c.from_residual-in_err-parts.ensures.1 in
    let t = turned c.args.bytes.now _ (reading_of c.loop-parts.reader) _ c.loop-parts.invariant.of c.in_err-parts.ensures.leads in
    let e = kept_fault c.args.bytes.now _ _ c.loop-parts.invariant.kept t in
    rw (p.1, p.2) (told c.args.bytes.now _ e)

pub returns-in-Some : goal.returns-in-Some
returns-in-Some c =
    let l = ap (λ o. led (Ok o) (reading_of c.turn.new.self)) (sym c.in-Some.is) ∙ c.in_ok-parts.ensures.leads in
    let t = turned c.args.bytes.now _ (reading_of c.loop-parts.reader) _ c.loop-parts.invariant.of l in
    let e = kept_done c.args.bytes.now _ _ c.loop-parts.invariant.kept t in
    told c.args.bytes.now _ e

pub loop-parts-smaller : goal.loop-parts-smaller
loop-parts-smaller c =
    let l = ap (λ o. led (Ok o) (reading_of c.turn.new.self)) (sym c.in_default.is) ∙ c.in_ok-parts.ensures.leads in
    let t = turned c.args.bytes.now _ (reading_of c.loop-parts.reader) _ c.loop-parts.invariant.of l in
    let a = advances c.args.bytes.now (reading_of c.loop-parts.reader) (reading_of c.turn.new.self) c.loop-parts.invariant.kept.good t in
    omega (arith, a.0, a.1)

pub loop-parts-preserved : goal.loop-parts-preserved
loop-parts-preserved c =
    let l = ap (λ o. led (Ok o) (reading_of c.turn.new.self)) (sym c.in_default.is) ∙ c.in_ok-parts.ensures.leads in
    let t = turned c.args.bytes.now _ (reading_of c.loop-parts.reader) _ c.loop-parts.invariant.of l in
    record {
      of = ap (λ b. b.now) c.in_ok-parts.ensures.of ∙ c.loop-parts.invariant.of;
      kept = kept_more c.args.bytes.now _ _ c.loop-parts.invariant.kept t;
    }
