use Rattle.std.proofs.Common.{◌∙◌, inl, inr, refl}
use Rattle.rpki_c.specs.Signed.{signed_in}
use Rattle.rpki_c.proofs.signed.rpki_signed_data.Goals as goal

pub returns-in-Err : goal.returns-in-Err
returns-in-Err c =
    let h = c.in-Err.ensures.reads in
    inr (inr (
      record {
        refused = record { error = c.in-Err.e; number = c.number.ensures; nothing = h.1.0; kind = h.1.1 };
        other =
            h.0;
      },
      refl,
    ))

pub returns-in-Ok-Some : goal.returns-in-Ok-Some
returns-in-Ok-Some c =
    let v = c.in-Ok-Some.found in
    let k = rw c.in-Ok-Some.field-0-is at c.in-Ok-Some.ensures.parts in
    inl (
      refl,
      record {
        parts = signed_in v;
        spelled = k.spelled;
        signed = c.of.ensures;
        algorithm = c.of-in-Ok-Some.ensures ∙ k.algorithm;
        signature = c.of-in-Ok-Some-2.ensures;
        unused = k.unused;
        parameters = refl;
      },
    )
