-- The definitions tried on an element.
use Rattle.std.proofs.Common.{◌≡◌, [], ◌∷◌, None, refl, codes, false}
use Rattle.std.specs.Fmt.{digits}
use Rattle.json_text.specs.Characters.{quote}
use Rattle.json_text.specs.Compact.{array_text, object_text}
use Rattle.elem.specs.declared.kind.Kind.TheVariants.{Rectangle}
use Rattle.elem.specs.ElementValue.{ElementValue}
use Rattle.elem.specs.Texts.{element_members, element_text}

r1 : ElementValue
r1 = record {
  id = codes "r1";
  kind = Rectangle;
  version = 1;
  nonce = 0;
  updated = 0;
  deleted = false;
  index = None;
  groups = [];
  frame = None;
  bound = [];
  container = None;
  start_binding = None;
  end_binding = None;
  file = None;
  rest =
      record { name = codes "angle"; value = codes "0" } ∷ record {
        name = codes "backgroundColor";
        value =
            codes "\"transparent\"";
      } ∷ [];
}

row : element_text r1
    ≡ codes
    "{\"angle\":0,\"backgroundColor\":\"transparent\",\"boundElements\":[],\"frameId\":null,\"groupIds\":[],\"id\":\"r1\",\"index\":null,\"isDeleted\":false,\"type\":\"rectangle\",\"updated\":0,\"version\":1,\"versionNonce\":0}"
unfolding r1 digits quote array_text object_text element_members
row = refl
