-- Each command has its own effect.
use Rattle.board_commands.specs.declared.command.Command.TheVariants as commands
use Rattle.effects.proofs.PreparingLaws.{as-given, for-stored, for-all, from-parts}
use Rattle.effects.proofs.preparing.prepared.Goals as goal

pub returns-in-Create : goal.returns-in-Create
returns-in-Create c =
    as-given c.settle.result c.args.lookup.now.store.now.elements c.args.lookup.now.shown.now
    (commands.Create c.in-Create.element c.in-Create.spot) c.args.command.now c.in-Create.is c.settle.ensures

pub returns-in-Set : goal.returns-in-Set
returns-in-Set c =
    for-all c.set.result c.args.lookup.now.store.now.elements c.args.lookup.now.shown.now
    (commands.Set c.in-Set.id c.in-Set.member c.in-Set.value) c.args.command.now c.in-Set.is c.set.ensures

pub returns-in-Delete : goal.returns-in-Delete
returns-in-Delete c =
    for-stored c.delete.result c.args.lookup.now.store.now.elements c.args.lookup.now.shown.now
    (commands.Delete c.in-Delete.ids) c.args.command.now c.in-Delete.is c.delete.ensures

pub returns-in-Place : goal.returns-in-Place
returns-in-Place c =
    as-given c.place.result c.args.lookup.now.store.now.elements c.args.lookup.now.shown.now
    (commands.Place c.in-Place.id c.in-Place.spot) c.args.command.now c.in-Place.is c.place.ensures

pub returns-in-Bind : goal.returns-in-Bind
returns-in-Bind c =
    for-stored c.bind.result c.args.lookup.now.store.now.elements c.args.lookup.now.shown.now
    (commands.Bind c.in-Bind.arrow c.in-Bind.side c.in-Bind.target c.in-Bind.rest) c.args.command.now c.in-Bind.is
    c.bind.ensures

pub returns-in-Unbind : goal.returns-in-Unbind
returns-in-Unbind c =
    for-stored c.unbind.result c.args.lookup.now.store.now.elements c.args.lookup.now.shown.now
    (commands.Unbind c.in-Unbind.arrow c.in-Unbind.side) c.args.command.now c.in-Unbind.is c.unbind.ensures

pub returns-in-Label : goal.returns-in-Label
returns-in-Label c =
    for-stored c.label.result c.args.lookup.now.store.now.elements c.args.lookup.now.shown.now
    (commands.Label c.in-Label.container c.in-Label.text) c.args.command.now c.in-Label.is c.label.ensures

pub returns-in-Unlabel : goal.returns-in-Unlabel
returns-in-Unlabel c =
    for-stored c.unlabel.result c.args.lookup.now.store.now.elements c.args.lookup.now.shown.now
    (commands.Unlabel c.in-Unlabel.text) c.args.command.now c.in-Unlabel.is c.unlabel.ensures

pub returns-in-Frame : goal.returns-in-Frame
returns-in-Frame c =
    for-all c.frame_in.result c.args.lookup.now.store.now.elements c.args.lookup.now.shown.now
    (commands.Frame c.in-Frame.ids c.in-Frame.frame) c.args.command.now c.in-Frame.is c.frame_in.ensures

pub returns-in-Unframe : goal.returns-in-Unframe
returns-in-Unframe c =
    for-all c.unframe.result c.args.lookup.now.store.now.elements c.args.lookup.now.shown.now
    (commands.Unframe c.in-Unframe.ids) c.args.command.now c.in-Unframe.is c.unframe.ensures

pub returns-in-Group : goal.returns-in-Group
returns-in-Group c =
    for-all c.group_in.result c.args.lookup.now.store.now.elements c.args.lookup.now.shown.now
    (commands.Group c.in-Group.ids c.in-Group.group) c.args.command.now c.in-Group.is c.group_in.ensures

pub returns-in-Ungroup : goal.returns-in-Ungroup
returns-in-Ungroup c =
    for-all c.ungroup.result c.args.lookup.now.store.now.elements c.args.lookup.now.shown.now
    (commands.Ungroup c.in-Ungroup.ids c.in-Ungroup.group) c.args.command.now c.in-Ungroup.is c.ungroup.ensures

pub returns-in_ok-originals-in-Duplicate : goal.returns-in_ok-originals-in-Duplicate
returns-in_ok-originals-in-Duplicate c =
    from-parts c.settle_for.result c.args.lookup.now.store.now.elements c.args.lookup.now.shown.now _ c.args.command.now
    c.in-Duplicate.is
    (rw c.in_ok-originals-in-Duplicate.ensures at c.settle_for.ensures.exact) c.settle_for.ensures.sound
    c.settle_for.ensures.live

pub returns-in-Paste : goal.returns-in-Paste
returns-in-Paste c =
    from-parts c.settle_for-in-Paste.result c.args.lookup.now.store.now.elements c.args.lookup.now.shown.now _
    c.args.command.now c.in-Paste.is
    c.settle_for-in-Paste.ensures.exact c.settle_for-in-Paste.ensures.sound c.settle_for-in-Paste.ensures.live
