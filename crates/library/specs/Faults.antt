-- What is told of a library's fault, and of an insertion that is refused. This project's own.
use Rattle.std.specs.Prelude.{ℕ, List, ◌++◌, codes, decimal}
use Rattle.elem_read.specs.Faults.{fault_word}
use Rattle.clips.specs.Faults.{words_of_element}
use Rattle.library.specs.declared.fault.InsertFault.{InsertFault}
use Rattle.library.specs.declared.fault.InsertFault.TheVariants as insertion
use Rattle.library.specs.declared.fault.ItemFault.{ItemFault}
use Rattle.library.specs.declared.fault.ItemFault.TheVariants as item
use Rattle.library.specs.declared.fault.LibFault.{LibFault}
use Rattle.library.specs.declared.fault.LibFault.TheVariants as library

abbrev pub item_fault_words : ItemFault → List ℕ
item_fault_words item.NotObject = codes "not an object"
item_fault_words item.Id = codes "id"
item_fault_words item.Status = codes "status"
item_fault_words item.Created = codes "created"
item_fault_words item.Name = codes "name"
item_fault_words item.Elements = codes "elements"
item_fault_words (item.Element place fault) = words_of_element place (fault_word fault)
item_fault_words (item.Repeated place) = words_of_element place (codes "repeated")

abbrev pub lib_fault_words : LibFault → List ℕ
lib_fault_words library.NotObject = codes "not an object"
lib_fault_words library.NotLibrary = codes "type"
lib_fault_words library.Items = codes "libraryItems"
lib_fault_words (library.Item place fault) =
    codes "item " ++ (decimal place ++ (codes ": " ++ item_fault_words fault))

abbrev pub insert_fault_words : InsertFault → List ℕ
insert_fault_words insertion.NoItem = codes "no item"
insert_fault_words (insertion.Exists place) = words_of_element place (codes "exists")
