use Rattle.std.proofs.Common.{refl}
use Rattle.file_table.proofs.Urls.{base64_there}
use Rattle.file_table.proofs.picture.content_of.Goals as goal

pub returns-else-is_base64 : goal.returns-else-is_base64
returns-else-is_base64 c =
    λ content is. c.if-is_base64.ensures.no refl is.media
    (base64_there c.args.url.now c.in_ok-rest.rest.now c.in_ok-rest.ensures content is c.in_ok-head.head.now
    c.in_ok-head.content.now c.in_ok-head.ensures.0 c.in_ok-head.ensures.1).0
