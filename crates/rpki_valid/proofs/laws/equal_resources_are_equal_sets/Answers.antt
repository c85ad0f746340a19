use Rattle.std.proofs.Common.{◌&&◌}
use Rattle.rpki.proofs.NamedLaws.{and-first, and-second, and-both}
use Rattle.rpki_resources.specs.Equal.{same_blocks}
use Rattle.rpki_valid.proofs.laws.equal_resources_are_equal_sets.Goals as goal

pub returns : goal.returns
returns c = λ a b.
    let four = same_blocks a.ipv4 b.ipv4 in
    let six = same_blocks a.ipv6 b.ipv6 in
    let numbers = same_blocks a.asn b.asn in (
      λ h. let rest = and-second four (six && numbers) h in
          record {
            ipv4 = and-first four (six && numbers) h;
            ipv6 = and-first six numbers rest;
            asn = and-second six numbers rest;
          },
      λ h. and-both four (six && numbers) h.ipv4 (and-both six numbers h.ipv6 h.asn),
    )
