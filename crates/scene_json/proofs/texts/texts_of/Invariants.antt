use Rattle.std.proofs.Common.{◌≡◌, All, IsUtf8, map, take}
use Rattle.json_text.specs.Characters.{quote}
use Rattle.scene_json.proofs.texts.texts_of.Given as goal

abbrev pub invariant-loop-item : goal.invariant-loop-item
invariant-loop-item l = record {
  utf8 : All IsUtf8 l.texts.items;
  quoted : take l.item-index l.item-items ≡ map quote l.texts.items;
}
