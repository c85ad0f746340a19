use Rattle.std.proofs.Common.{◌≡◌, Some, sym, refl, ◌∙◌}
use Rattle.rpki_text.specs.RsyncText.{relative, uri_of}
use Rattle.rpki_text.specs.UriText.{is_uri_byte}
use Rattle.rpki_text.specs.Cuts.{cut_text}
use Rattle.rpki_text.proofs.CutLaws.{list-all-drop}
use Rattle.rpki_text.proofs.MeaningLaws.{way-back, identical-test-some}
use Rattle.rpki_text.proofs.uri.rsync_view.RsyncView.relative_to.Goals as goal

pub returns-in_err-path-clause-path : goal.returns-in_err-path-clause-path
returns-in_err-path-clause-path c =
    rw c.from_residual.ensures (c.in_err-path.ensures.path c.args.self.now.own c.args.base.now.own)

pub uri_text-requires : goal.uri_text-requires
uri_text-requires c =
    rw c.in_ok-path.ensures.tail.1 (list-all-drop is_uri_byte c.in_ok-path.ensures.tail.0
    (cut_text c.args.self.now.cut) c.args.self.now.own.form.characters)

pub returns-clause-path : goal.returns-clause-path
returns-clause-path c =
    rw c.uri_text.ensures (c.in_ok-path.ensures.path c.args.self.now.own c.args.base.now.own)

pub returns-clause-back : goal.returns-clause-back
returns-clause-back c some =
    let left : Some c.uri_text.result.now
    ≡ relative (uri_of (cut_text c.args.self.now.cut)) (uri_of (cut_text c.args.base.now.cut)) =
    rw c.uri_text.ensures (c.in_ok-path.ensures.path c.args.self.now.own c.args.base.now.own) in
    way-back _ _ _ _ _ _ c.args.self.now.own c.args.base.now.own c.uri_text.result.now some (sym left)

pub returns-clause-same : goal.returns-clause-same
returns-clause-same c none =
    let left : Some c.uri_text.result.now
    ≡ relative (uri_of (cut_text c.args.self.now.cut)) (uri_of (cut_text c.args.base.now.cut)) =
    rw c.uri_text.ensures (c.in_ok-path.ensures.path c.args.self.now.own c.args.base.now.own) in
    identical-test-some _ _ _ c.args.self.now.own (uri_of (cut_text c.args.base.now.cut)) c.uri_text.result.now
    (sym left) ∙ rw none refl
