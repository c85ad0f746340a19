use Rattle.std.proofs.Common.{◌∙◌, refl}
use Rattle.rpki_payloads.proofs.ExceptionLaws.{is-without, kept-set, kept-timed, left-set}
use Rattle.rpki_payloads.proofs.FilterKeyLaws.{kept-by, kept-timed-by}
use Rattle.rpki_payloads.proofs.exceptions.without.Goals as goal

pub returns : goal.returns
returns c =
    is-without c.args.prefix_filters.now c.args.key_filters.now c.args.one.now c.new.result _
    c.sort_vrps.new.vrps.items c.sort_timed.new.all.items c.in_ok-pairs.pairs.items
    c.sort_keys.new.keys.items c.tally.result c.new.ensures c.in_ok-name.ensures
    (kept-set c.args.prefix_filters.now c.args.prefix_filters.now _ _ c.in_ok-vrps.vrps.items
    c.sort_vrps.new.vrps.items refl c.vrps.ensures
    (kept-by c.args.prefix_filters.now c.in_ok-filters.filters c.in_ok-filters.ensures _ _ c.in_ok-vrps.ensures)
    c.sort_vrps.ensures)
    (kept-timed c.args.prefix_filters.now c.args.prefix_filters.now _ _ c.in_ok-timed.timed.items
    c.sort_timed.new.all.items refl c.timed.ensures
    (kept-timed-by c.args.prefix_filters.now c.in_ok-filters.filters c.in_ok-filters.ensures _ _ c.in_ok-timed.ensures)
    c.sort_timed.ensures)
    (c.in_ok-pairs.ensures ∙ c.pairs.ensures)
    (left-set c.args.key_filters.now c.args.key_filters.now _ _ c.in_ok-keys.keys.items
    c.sort_keys.new.keys.items refl c.keys.ensures c.in_ok-keys.ensures c.sort_keys.ensures)
    c.tally.ensures
