use Rattle.std.proofs.Common.{rules, ◌≡◌, ℕ, Ok, subst}
use Rattle.rpki_resources.specs.Blocks.{IsAmong}
use Rattle.rpki_contents.specs.AspaView.{attestation, found_aspa}
use Rattle.rpki_c.proofs.authority_objects.customer_within.Goals as goal

pub returns : goal.returns
returns c =
    let read : attestation c.args.octets.now ≡ Ok (found_aspa c.in-Ok.found) = search rules in (
      record {
        content = found_aspa c.in-Ok.found;
        read = read;
        within = subst (λ (n : ℕ). IsAmong n c.args.own.now) c.from.ensures
            (c.contains.ensures.0 c.if-not-contains.false);
      },
      c.aspa_of.ensures,
    )
