-- The lines of orders, one more at a time.
use Rattle.std.proofs.Common.{◌≡◌, ℕ, zero, suc, ◌+◌, ◌<◌, List, [], ◌∷◌, ◌++◌, length, get_or, take, sym, ap, ◌∙◌, arith}
use Rattle.std.proofs.lemmas.List.{append-nil, append_assoc}
use Rattle.spelling.specs.Shown.{order_text, orders_text}

pub orders_more : (from size : ℕ) (lists : List (List ℕ)) (k : ℕ) → k < length lists
    → orders_text from size (take k lists) ++ order_text (from + k) (take size (get_or lists k [])) ≡ orders_text from size (take (k + 1) lists)
orders_more from size [] k h = absurd (omega arith)
orders_more from size (list ∷ lists) zero h =
    let e : from + 0 ≡ from = omega arith in
    rw e (sym (append-nil (order_text from (take size list))))
orders_more from size (list ∷ lists) (suc k) h =
    let e : suc k + 1 ≡ suc (k + 1) = omega arith in
    let d : from + suc k ≡ from + 1 + k = omega arith in
    rw (e, d) (append_assoc (order_text from (take size list)) (orders_text (from + 1) size (take k lists)) (order_text (from + 1 + k) (take size (get_or lists k [])))
    ∙ ap (λ t. order_text from (take size list) ++ t) (orders_more (from + 1) size lists k (omega arith)))
