-- The text that a borrowed URI is read from.
use Rattle.std.specs.Prelude.{ℕ, List}
use Rattle.rpki_text.specs.declared.uri.rsync_view.RsyncView.{RsyncView}
use Rattle.rpki_text.specs.declared.uri.https_view.HttpsView.{HttpsView}

abbrev pub rsync_text : RsyncView → List ℕ
rsync_text u = u.cut.text.now

abbrev pub https_text : HttpsView → List ℕ
https_text u = u.cut.text.now
