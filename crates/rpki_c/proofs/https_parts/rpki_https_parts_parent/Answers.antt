use Rattle.std.proofs.Common.{ℕ, take, refl, inl, inr, subst}
use Rattle.std.proofs.lemmas.List.{length-take-le}
use Rattle.rpki_text.proofs.HttpsParentEndLaws.{https_end-cut, https_end-text}
use Rattle.rpki_c.specs.UriPlaces.{AreHttpsParts, with_https_end}
use Rattle.rpki_c.proofs.PlaceLaws.{https-cut, https-end-parts}
use Rattle.rpki_c.proofs.https_parts.rpki_https_parts_parent.Goals as goal

pub returns : goal.returns
returns c =
    let t = c.args.text.now in
    let n = c.in-Some-parent_len.len in
    let laid = c.in-Some.ensures.laid_out in
    let fits = rw c.in-Some.ensures.text at c.in-Some-parent_len.ensures.within in
    inr (
      laid,
      λ a.
          let cut = https-cut laid a in
          let last = c.in-Some-parent_len.ensures.end (c.in-Some.ensures.own a) in
          let ends = rw c.in-Some.ensures.text at last in
          let parts = https-end-parts laid (https_end-cut t _ n cut ends) in
          inl (
            refl,
            fits,
            https_end-text t _ n cut ends,
            subst (λ (k : ℕ). AreHttpsParts (take n t) (with_https_end c.args.parts.now k))
                (length-take-le n t fits) parts,
          ),
    )
