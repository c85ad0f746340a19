use Rattle.std.proofs.Common.{refl, inl, inr, ◌∙◌}
use Rattle.rpki_c.proofs.rsync_parts.rpki_rsync_parts_relative_to.Goals as goal

pub of_range-requires : goal.of_range-requires
of_range-requires c = c.in-Some-relative_range.ensures.within.0

pub returns : goal.returns
returns c =
    inr (
      c.in-Some.ensures.laid_out,
      c.in-Some-cut.ensures.laid_out,
      λ a b.
          let found = c.in-Some-relative_range.ensures.some (c.in-Some.ensures.own a) (c.in-Some-cut.ensures.own b) in
          let some = rw (c.in-Some.ensures.text, c.in-Some-cut.ensures.text) at found in
          inl (
            refl,
            record {
              path = some.path;
              leads = some.leads;
              place = c.of_range.ensures.part _ _ some.stands;
              last = c.of_range.ensures.last ∙ some.last;
            },
          ),
    )
