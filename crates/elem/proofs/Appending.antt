-- What stands behind the bytes that were there, as json_text's lemmas say it.
pub use Rattle.json_text.proofs.CallerLemmas.{extends_same, extends_by, extends_then, on_err_same, on_err_then}
