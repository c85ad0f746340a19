use Rattle.std.proofs.Common.{◌≡◌, ◌-◌, ◌∙◌, ap, sym, ℕ}
use Rattle.rpki_resources.specs.IpRead.{address_width}
use Rattle.rpki_payloads.proofs.SharedLaws.{all-addresses, fits-all}
use Rattle.rpki_payloads.proofs.shared.block_of.Goals as goal

pub returns-then-others-ge128 : goal.returns-then-others-ge128
returns-then-others-ge128 c =
    let p = c.args.prefix in
    let others : c.saturating_sub-others.result ≡ address_width p.addr - p.len =
    c.saturating_sub-others.ensures ∙ ap (λ (w : ℕ). w - p.len) c.width_of.ensures in
    let below = rw c.number_of-number.ensures.number at c.number_of-number.ensures.below in
    sym (all-addresses p c.saturating_sub-others.result others c.if-others-ge128.true below)

pub overflow_add-result : goal.overflow_add-result
overflow_add-result c =
    let p = c.args.prefix in
    let others : c.saturating_sub-others.result ≡ address_width p.addr - p.len =
    c.saturating_sub-others.ensures ∙ ap (λ (w : ℕ). w - p.len) c.width_of.ensures in
    let below = rw c.number_of-number.ensures.number at c.number_of-number.ensures.below in
    rw (c.number_of-number.ensures.number, c.count_of-count.ensures)
    (record { fits = fits-all p c.saturating_sub-others.result others below })
