use Rattle.std.proofs.Common.{inl, inr, refl, sym, ◌∙◌}
use Rattle.rpki_c.proofs.policies.read_policy.Goals as goal

pub returns-else-not-is_of_version-clause-ok : goal.returns-else-not-is_of_version-clause-ok
returns-else-not-is_of_version-clause-ok c =
    let (x, h) = c.in-Ok.ensures in (
      x,
      h.cert,
      record {
        known = c.in-Ok.found.known;
        read = record { spelled = h.cert.spelled; says = h.says };
        policy_is = c.in-Some.is;
        version = sym (c.is_of_version.ensures c.args.octets.now x h.cert) ∙ c.if-not-is_of_version.false;
      },
    )

pub returns-then-not-is_of_version-clause-err : goal.returns-then-not-is_of_version-clause-err
returns-then-not-is_of_version-clause-err c =
    let (x, h) = c.in-Ok.ensures in
    inr (inr (
      x,
      c.in-Some.policy,
      refl,
      record {
        known = c.in-Ok.found.known;
        read = record { spelled = h.cert.spelled; says = h.says };
        policy_is = c.in-Some.is;
        other = sym (c.is_of_version.ensures c.args.octets.now x h.cert) ∙ c.if-not-is_of_version.true;
      },
    ))

pub returns-in-None-clause-err : goal.returns-in-None-clause-err
returns-in-None-clause-err c =
    let (x, h) = c.in-Ok.ensures in
    inr (inl (x, c.in-Ok.found.known, refl, record { spelled = h.cert.spelled; says = h.says }, c.in-None.is))
