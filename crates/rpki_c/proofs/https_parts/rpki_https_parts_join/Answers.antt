use Rattle.std.proofs.Common.{◌≡◌, ◌≢◌, Some, inl, inr, refl, sym, ap, ◌∙◌}
use Rattle.rpki_text.specs.declared.uri.error.Error.{Error}
use Rattle.rpki_text.specs.HttpsText.{https_joined}
use Rattle.rpki_text.proofs.HttpsPartLaws.{https_joined-cut, https-join-ok, https-join-refuses}
use Rattle.rpki_c.proofs.PlaceLaws.{https-cut, https-end-parts}
use Rattle.rpki_c.proofs.https_parts.rpki_https_parts_join.Goals as goal

pub returns-in-Ok : goal.returns-in-Ok
returns-in-Ok c =
    let path = c.args.path.now in
    let laid = c.in-Some.ensures.laid_out in
    inr (
      laid,
      λ a.
          let text = c.in-Ok.ensures.text (c.in-Some.ensures.own a)
          ∙ ap (λ x. https_joined x path) c.in-Some.ensures.text in
          inl (
            https-join-ok path c.in-Ok.ensures.ok,
            rw text at c.store_joined.ensures,
            https-end-parts laid (https_joined-cut c.args.base.now _ (https-cut laid a) path c.in-Ok.ensures.ok),
          ),
    )

other : (e : Error) → e ≡ Error.InvalidCharacters → e ≢ Error.OutOfMemory
other e h = rw h (λ k. cc)

pub returns-in-Err : goal.returns-in-Err
returns-in-Err c =
    inr (
      c.in-Some.ensures.laid_out,
      λ a.
          inr (
            record {
              error = c.in-Err.e;
              is = https-join-refuses c.args.path.now c.in-Err.ensures.err.1 ∙ ap Some (sym c.in-Err.ensures.err.0);
              number = c.uri_fault.ensures;
              memory = other c.in-Err.e c.in-Err.ensures.err.0;
            },
            record { buffer = refl; size = refl },
          ),
    )
