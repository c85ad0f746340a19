use Rattle.std.proofs.Common.{◌&&◌, bytes_eq, sym, ap, ◌∙◌}
use Rattle.rpki_text.specs.Cuts.{path_in}
use Rattle.rpki_text.proofs.OwnLaws.{own-same}
use Rattle.rpki_text.proofs.uri.rsync_cut.RsyncCut.is_equal_to.Goals as goal

pub returns-then-has_module_of : goal.returns-then-has_module_of
returns-then-has_module_of c a b =
    let u = c.args.self.now in
    let v = c.args.other.now in
    rw (c.eq.ensures, c.path.ensures, c.path-then-has_module_of.ensures)
    (sym (ap (λ x. x && bytes_eq (path_in u) (path_in v)) (sym c.has_module_of.ensures ∙ c.if-has_module_of.true))
    ∙ own-same u v a b)

pub returns-else-has_module_of : goal.returns-else-has_module_of
returns-else-has_module_of c a b =
    let u = c.args.self.now in
    let v = c.args.other.now in
    c.if-has_module_of.false ∙ sym (ap (λ x. x && bytes_eq (path_in u) (path_in v))
    (sym c.has_module_of.ensures ∙ c.if-has_module_of.false)) ∙ own-same u v a b
