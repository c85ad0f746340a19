use Rattle.std.proofs.Common.{ℕ, take, refl, inl, inr, subst}
use Rattle.std.proofs.lemmas.List.{length-take-le}
use Rattle.rpki_text.proofs.ParentEndLaws.{parent_end-cut, parent_end-text}
use Rattle.rpki_c.specs.UriPlaces.{AreParts, with_end}
use Rattle.rpki_c.proofs.PlaceLaws.{parts-cut, end-parts}
use Rattle.rpki_c.proofs.rsync_parts.rpki_rsync_parts_parent.Goals as goal

pub returns : goal.returns
returns c =
    let t = c.args.text.now in
    let n = c.in-Some-parent_len.len in
    let laid = c.in-Some.ensures.laid_out in
    let fits = rw c.in-Some.ensures.text at c.in-Some-parent_len.ensures.within in
    inr (
      laid,
      λ a.
          let cut = parts-cut a in
          let last = c.in-Some-parent_len.ensures.segments (c.in-Some.ensures.own a) in
          let ends = rw c.in-Some.ensures.text at last in
          let parts = end-parts laid (parent_end-cut t _ _ n cut ends) in
          inl (
            refl,
            fits,
            parent_end-text t _ _ n cut ends,
            subst (λ (k : ℕ). AreParts (take n t) (with_end c.args.parts.now k))
                (length-take-le n t fits) parts,
          ),
    )
