use Rattle.std.proofs.Common.{codes, refl}
use Rattle.json_text.proofs.CallerLemmas.{quote-compact}
use Rattle.elem.proofs.values.push_kind.Goals as goal

pub returns-in-Rectangle-clause-nests : goal.returns-in-Rectangle-clause-nests
unfolding lib.Utf8.encode
returns-in-Rectangle-clause-nests c = rw c.in-Rectangle.is (quote-compact 0 _ (codes "rectangle", (refl, refl)))

pub returns-in-Diamond-clause-nests : goal.returns-in-Diamond-clause-nests
unfolding lib.Utf8.encode
returns-in-Diamond-clause-nests c = rw c.in-Diamond.is (quote-compact 0 _ (codes "diamond", (refl, refl)))

pub returns-in-Ellipse-clause-nests : goal.returns-in-Ellipse-clause-nests
unfolding lib.Utf8.encode
returns-in-Ellipse-clause-nests c = rw c.in-Ellipse.is (quote-compact 0 _ (codes "ellipse", (refl, refl)))

pub returns-in-Arrow-clause-nests : goal.returns-in-Arrow-clause-nests
unfolding lib.Utf8.encode
returns-in-Arrow-clause-nests c = rw c.in-Arrow.is (quote-compact 0 _ (codes "arrow", (refl, refl)))

pub returns-in-Line-clause-nests : goal.returns-in-Line-clause-nests
unfolding lib.Utf8.encode
returns-in-Line-clause-nests c = rw c.in-Line.is (quote-compact 0 _ (codes "line", (refl, refl)))

pub returns-in-Freedraw-clause-nests : goal.returns-in-Freedraw-clause-nests
unfolding lib.Utf8.encode
returns-in-Freedraw-clause-nests c = rw c.in-Freedraw.is (quote-compact 0 _ (codes "freedraw", (refl, refl)))

pub returns-in-Text-clause-nests : goal.returns-in-Text-clause-nests
unfolding lib.Utf8.encode
returns-in-Text-clause-nests c = rw c.in-Text.is (quote-compact 0 _ (codes "text", (refl, refl)))

pub returns-in-Image-clause-nests : goal.returns-in-Image-clause-nests
unfolding lib.Utf8.encode
returns-in-Image-clause-nests c = rw c.in-Image.is (quote-compact 0 _ (codes "image", (refl, refl)))

pub returns-in-Frame-clause-nests : goal.returns-in-Frame-clause-nests
unfolding lib.Utf8.encode
returns-in-Frame-clause-nests c = rw c.in-Frame.is (quote-compact 0 _ (codes "frame", (refl, refl)))

pub returns-in-Magicframe-clause-nests : goal.returns-in-Magicframe-clause-nests
unfolding lib.Utf8.encode
returns-in-Magicframe-clause-nests c = rw c.in-Magicframe.is (quote-compact 0 _ (codes "magicframe", (refl, refl)))

pub returns-in-Iframe-clause-nests : goal.returns-in-Iframe-clause-nests
unfolding lib.Utf8.encode
returns-in-Iframe-clause-nests c = rw c.in-Iframe.is (quote-compact 0 _ (codes "iframe", (refl, refl)))

pub returns-in-Embeddable-clause-nests : goal.returns-in-Embeddable-clause-nests
unfolding lib.Utf8.encode
returns-in-Embeddable-clause-nests c = rw c.in-Embeddable.is (quote-compact 0 _ (codes "embeddable", (refl, refl)))
