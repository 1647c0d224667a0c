-- Each part is read in the order of the faults.
use Rattle.std.proofs.Common.{codes, inl, inr, subst, sym}
use Rattle.std.proofs.lemmas.Result.{err_from_is_err_and}
use Rattle.json_text.specs.Members.{pairs}
use Rattle.elem.specs.Facts.{is_header}
use Rattle.elem.specs.Forms.{Find, find_in, IsTextOrNull, IsBindingOrNull, AreOthers}
use Rattle.elem_read.specs.declared.fault.ElemFault.TheVariants.{Container, Binding, File}
use Rattle.elem_read.proofs.NoSelections.{members-found}
use Rattle.elem_read.proofs.Firsts.{after-id, after-kind, after-version, after-nonce, after-updated, after-index, after-deleted, after-groups, after-frame, after-bound, after-container, after-bindings}
use Rattle.elem_read.proofs.Keeping.{says-element}
use Rattle.elem_read.proofs.Others.{kept-others}
use Rattle.elem_read.proofs.Parts.{own-at, own-first, stop-same}
use Rattle.elem_read.proofs.element.element_of.Goals as goal

pub returns-in_err-container-clause-fault : goal.returns-in_err-container-clause-fault
returns-in_err-container-clause-fault c =
    let find : Find = find_in (pairs c.args.members) in
    let p = err_from_is_err_and c.from_residual-in_err-container.result c.from_residual-in_err-container.ensures.1 in
    rw (p.1, p.2) (λ fault e. own-first find (codes "text") (codes "containerId") IsTextOrNull c.in_ok-kind.kind
    Container fault _ _ c.is_text.ensures c.in_ok-kind.ensures c.in_err-container.ensures (stop-same _ _ _ e)
    (after-bound find _ c.in_ok-bound.ensures
    (after-frame find _ c.in_ok-frame.ensures
    (after-groups find _ c.in_ok-groups.ensures
    (after-deleted find _ c.in_ok-deleted.ensures
    (after-index find _ c.in_ok-index.ensures
    (after-updated find _ c.in_ok-updated.ensures
    (after-nonce find _ c.in_ok-nonce.ensures
    (after-version find _ c.in_ok-version.ensures
    (after-kind find _ c.in_ok-kind.ensures
    (after-id find _ c.in_ok-id.ensures))))))))))
    (λ lacks. lacks))

pub returns-in_err-start_binding-clause-fault : goal.returns-in_err-start_binding-clause-fault
returns-in_err-start_binding-clause-fault c =
    let find : Find = find_in (pairs c.args.members) in
    let p = err_from_is_err_and c.from_residual-in_err-start_binding.result
    c.from_residual-in_err-start_binding.ensures.1 in
    rw (p.1, p.2) (λ fault e. own-first find (codes "arrow") (codes "startBinding") IsBindingOrNull c.in_ok-kind.kind
    Binding fault _ _ c.is_arrow-arrow.ensures c.in_ok-kind.ensures c.in_err-start_binding.ensures
    (stop-same _ _ _ e)
    (after-container find c.in_ok-kind.kind _ c.in_ok-kind.ensures
    (own-at _ _ IsTextOrNull _ _ c.is_text.ensures c.in_ok-container.ensures)
    (after-bound find _ c.in_ok-bound.ensures
    (after-frame find _ c.in_ok-frame.ensures
    (after-groups find _ c.in_ok-groups.ensures
    (after-deleted find _ c.in_ok-deleted.ensures
    (after-index find _ c.in_ok-index.ensures
    (after-updated find _ c.in_ok-updated.ensures
    (after-nonce find _ c.in_ok-nonce.ensures
    (after-version find _ c.in_ok-version.ensures
    (after-kind find _ c.in_ok-kind.ensures
    (after-id find _ c.in_ok-id.ensures)))))))))))
    inl)

pub returns-in_err-end_binding-clause-fault : goal.returns-in_err-end_binding-clause-fault
returns-in_err-end_binding-clause-fault c =
    let find : Find = find_in (pairs c.args.members) in
    let p =
    err_from_is_err_and c.from_residual-in_err-end_binding.result c.from_residual-in_err-end_binding.ensures.1 in
    rw (p.1, p.2) (λ fault e. own-first find (codes "arrow") (codes "endBinding") IsBindingOrNull c.in_ok-kind.kind
    Binding fault _ _ c.is_arrow-arrow.ensures c.in_ok-kind.ensures c.in_err-end_binding.ensures (stop-same _ _ _ e)
    (after-container find c.in_ok-kind.kind _ c.in_ok-kind.ensures
    (own-at _ _ IsTextOrNull _ _ c.is_text.ensures c.in_ok-container.ensures)
    (after-bound find _ c.in_ok-bound.ensures
    (after-frame find _ c.in_ok-frame.ensures
    (after-groups find _ c.in_ok-groups.ensures
    (after-deleted find _ c.in_ok-deleted.ensures
    (after-index find _ c.in_ok-index.ensures
    (after-updated find _ c.in_ok-updated.ensures
    (after-nonce find _ c.in_ok-nonce.ensures
    (after-version find _ c.in_ok-version.ensures
    (after-kind find _ c.in_ok-kind.ensures
    (after-id find _ c.in_ok-id.ensures)))))))))))
    inr)

pub returns-in_err-file-clause-fault : goal.returns-in_err-file-clause-fault
returns-in_err-file-clause-fault c =
    let find : Find = find_in (pairs c.args.members) in
    let p = err_from_is_err_and c.from_residual-in_err-file.result c.from_residual-in_err-file.ensures.1 in
    rw (p.1, p.2) (λ fault e. own-first find (codes "image") (codes "fileId") IsTextOrNull c.in_ok-kind.kind File fault
    _ _ c.is_image.ensures c.in_ok-kind.ensures c.in_err-file.ensures (stop-same _ _ _ e)
    (after-bindings find c.in_ok-kind.kind _ _ c.in_ok-kind.ensures
    (own-at _ _ IsBindingOrNull _ _ c.is_arrow-arrow.ensures c.in_ok-start_binding.ensures)
    (own-at _ _ IsBindingOrNull _ _ c.is_arrow-arrow.ensures c.in_ok-end_binding.ensures)
    (after-container find c.in_ok-kind.kind _ c.in_ok-kind.ensures
    (own-at _ _ IsTextOrNull _ _ c.is_text.ensures c.in_ok-container.ensures)
    (after-bound find _ c.in_ok-bound.ensures
    (after-frame find _ c.in_ok-frame.ensures
    (after-groups find _ c.in_ok-groups.ensures
    (after-deleted find _ c.in_ok-deleted.ensures
    (after-index find _ c.in_ok-index.ensures
    (after-updated find _ c.in_ok-updated.ensures
    (after-nonce find _ c.in_ok-nonce.ensures
    (after-version find _ c.in_ok-version.ensures
    (after-kind find _ c.in_ok-kind.ensures
    (after-id find _ c.in_ok-id.ensures))))))))))))
    (λ lacks. lacks))

pub returns-clause-says : goal.returns-clause-says
returns-clause-says c =
    record {
      id = c.in_ok-id.ensures;
      kind = c.in_ok-kind.ensures;
      version = c.in_ok-version.ensures;
      nonce = c.in_ok-nonce.ensures;
      updated = c.in_ok-updated.ensures;
      index = c.in_ok-index.ensures;
      deleted = c.in_ok-deleted.ensures;
      groups = c.in_ok-groups.ensures;
      frame = c.in_ok-frame.ensures;
      bound = c.in_ok-bound.ensures;
      container = own-at _ _ IsTextOrNull _ _ c.is_text.ensures c.in_ok-container.ensures;
      start_binding = own-at _ _ IsBindingOrNull _ _ c.is_arrow-arrow.ensures c.in_ok-start_binding.ensures;
      end_binding = own-at _ _ IsBindingOrNull _ _ c.is_arrow-arrow.ensures c.in_ok-end_binding.ensures;
      file = own-at _ _ IsTextOrNull _ _ c.is_image.ensures c.in_ok-file.ensures;
      rest = subst (AreOthers (is_header c.in_ok-kind.kind) (find_in (pairs c.args.members)))
          (sym c.in_ok-rest.ensures) (kept-others (is_header c.in_ok-kind.kind) c.args.members c.requires.rise);
    }

pub invariant_of-result : goal.invariant_of-result
invariant_of-result c =
    says-element (find_in (pairs c.args.members)) _ (members-found c.args.members c.requires.nest)
    (record {
      id = c.in_ok-id.ensures;
      kind = c.in_ok-kind.ensures;
      version = c.in_ok-version.ensures;
      nonce = c.in_ok-nonce.ensures;
      updated = c.in_ok-updated.ensures;
      index = c.in_ok-index.ensures;
      deleted = c.in_ok-deleted.ensures;
      groups = c.in_ok-groups.ensures;
      frame = c.in_ok-frame.ensures;
      bound = c.in_ok-bound.ensures;
      container = own-at _ _ IsTextOrNull _ _ c.is_text.ensures c.in_ok-container.ensures;
      start_binding = own-at _ _ IsBindingOrNull _ _ c.is_arrow-arrow.ensures c.in_ok-start_binding.ensures;
      end_binding = own-at _ _ IsBindingOrNull _ _ c.is_arrow-arrow.ensures c.in_ok-end_binding.ensures;
      file = own-at _ _ IsTextOrNull _ _ c.is_image.ensures c.in_ok-file.ensures;
      rest = subst (AreOthers (is_header c.in_ok-kind.kind) (find_in (pairs c.args.members)))
          (sym c.in_ok-rest.ensures) (kept-others (is_header c.in_ok-kind.kind) c.args.members c.requires.rise);
    })
