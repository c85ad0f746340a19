use Rattle.std.proofs.Common.{◌+◌, map, length, refl, inl, arith, sym}
use Rattle.std.proofs.lemmas.List.{length-map}
use Rattle.rpki_resources.specs.declared.family.AddressFamily.TheVariants.{Ipv4, Ipv6}
use Rattle.rpki_c.specs.Resources.{ip_entry}
use Rattle.rpki_c.proofs.ResourceLaws.{two-filled}
use Rattle.rpki_c.proofs.settling.fill.Goals as goal

pub returns : goal.returns
returns c =
    let four = c.args.v4.now in
    let six = c.args.v6.now in
    let size = length-map four (ip_entry Ipv4) in
    let more = length-map six (ip_entry Ipv6) in
    inl (
      refl,
      two-filled (map (ip_entry Ipv4) four) (map (ip_entry Ipv6) six) c.args.entries.now c.write_blocks.new.entries
          c.write_blocks-2.new.entries (length four) (length four + length six) (sym size) (omega (arith, more))
          c.write_blocks.ensures c.write_blocks-2.ensures c.if-entries-all.false,
    )
