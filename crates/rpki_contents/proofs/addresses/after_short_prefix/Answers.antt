use Rattle.std.proofs.Common.{sym, ◌∙◌}
use Rattle.rpki_contents.proofs.PrefixLaws.{prefix_there}
use Rattle.rpki_contents.proofs.addresses.after_short_prefix.Goals as goal

pub returns-clause-reads : goal.returns-clause-reads
returns-clause-reads c =
    prefix_there _ _ _ _ _ _ _ _ _ c.in-Some.ensures.some c.in-Some-short_value.ensures.some
    c.in-Some-split_first.ensures.cases.0 (c.is_legal.ensures.0 c.if-not-is_legal.false)
    c.in-Some-short_max_length.ensures (sym c.fits.ensures ∙ c.if-not-fits.false)
