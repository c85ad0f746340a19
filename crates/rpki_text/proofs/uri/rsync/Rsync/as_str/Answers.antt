use Rattle.rpki_text.proofs.uri.rsync.Rsync.as_str.Goals as goal

pub uri_text-requires : goal.uri_text-requires
uri_text-requires c = rw c.as_slice.ensures.text c.as_slice.ensures.form.characters
