use Rattle.std.proofs.Common.{inl, inr, refl}
use Rattle.std.specs.Option.{option_copied}
use Rattle.std.proofs.lemmas.Bool.{iff_false}
use Rattle.rpki_c.proofs.ListNameLaws.{at-names, names-at}
use Rattle.rpki_c.proofs.list_name.names_file.Goals as goal

pub returns-in-Err : goal.returns-in-Err
returns-in-Err c = λ s x at.
    let q = c.in-Err.field-0 in inl (refl, q.part, (q.error, c.in-Err.ensures.err))

pub returns-then-not-is_at : goal.returns-then-not-is_at
returns-then-not-is_at c = λ s x at.
    let (y, k) = c.in-Ok.ensures.ok in
    let other = iff_false c.is_at.ensures c.if-not-is_at.true in
    inr (
      refl,
      λ h. other (at-names c.args.by.now x y c.args.name.now k.spelled (option_copied c.list_place.result)
          (option_copied c.folder_place.result) (c.list_place.ensures s x at)
          (c.folder_place.ensures _ y k) h),
    )

pub returns : goal.returns
returns c = λ s x at.
    let (y, k) = c.in-Ok.ensures.ok in
    names-at c.args.by.now x y c.args.name.now k.spelled (option_copied c.list_place.result)
    (option_copied c.folder_place.result) (c.list_place.ensures s x at) (c.folder_place.ensures _ y k)
    (c.is_at.ensures.0 c.if-not-is_at.false)
