use Rattle.std.proofs.Common.{sym, ◌∙◌}
use Rattle.std.proofs.lemmas.Bool.{iff_false}
use Rattle.rpki_text.specs.Views.{rsync_text}
use Rattle.rpki_c.proofs.ListNameLaws.{no-way, other-way}
use Rattle.rpki_c.proofs.list_name.is_file_in.Goals as goal

pub returns-in_default : goal.returns-in_default
returns-in_default c =
    no-way (rsync_text c.args.place.now) (rsync_text c.args.folder.now) c.args.name.now _ _ c.args.folder.now.own
    (sym c.in_default.ensures.path)

pub returns-then-not-are_same : goal.returns-then-not-are_same
returns-then-not-are_same c =
    let other = iff_false c.are_same.ensures c.if-not-are_same.true in
    other-way (rsync_text c.args.place.now) (rsync_text c.args.folder.now) c.args.name.now _ _ c.args.folder.now.own
    c.in-Some.path.now (sym c.in-Some.ensures.path) (λ e. other (c.as_bytes.ensures.value ∙ e))
