-- What is read, or the first fault, of one reading after the other.
use Rattle.std.proofs.Common.{◌≡◌, inl, inr, Result, Ok, Err, IfOk, refl, sym, ap, subst, ◌∙◌}
use Rattle.std.specs.Result.{IsErrAnd}
use Rattle.std.proofs.lemmas.Result.{err_from_is_err_and}
use Rattle.board_base.specs.declared.stop.Stop.{Stop}
use Rattle.board_base.specs.declared.stop.Stop.TheVariants.{Fault, Memory}
use Rattle.elem_read.proofs.CallerLemmas.{Decided}
use Rattle.json_reader.specs.declared.fault.JsonFault.{JsonFault}
use Rattle.session_text.specs.Reads.{Or, Gives, Then, Answers}
use Rattle.session_text.specs.inner.Reads.{IsReadResult}
use Rattle.session_text.specs.Reads.Then.{goes_on, ends}
use Rattle.session_text.specs.declared.fault.TextFault.{TextFault}
use Rattle.session_text.specs.declared.fault.TextFault.TheVariants.{Json}

abbrev pub given : {A : Type 0} → A → Result A TextFault
given x = Ok x

abbrev pub refused : {A : Type 0} → TextFault → Result A TextFault
refused fault = Err fault

pub given-same : {A : Type 0} {x y : A} → given x ≡ given y → x ≡ y
given-same e = cc

pub refused-same : (A : Type 0) (f g : TextFault) → refused {A = A} f ≡ refused {A = A} g → f ≡ g
refused-same A f g e = cc

pub apart : {A : Type 0} (x : A) (f : TextFault) → given x ≡ refused f → ⊥
apart x f e = cc

-- Something is read or there is a first fault, and one of both alone.
pub record IsOne {A : Type 0} (Reads : Result A TextFault → Type 0) : Type 0 where
  pub some : (answer : Result A TextFault) × Reads answer
  pub once : (a b : Result A TextFault) → Reads a → Reads b → a ≡ b

-- It is so, what is read has this property, and no fault of a JSON form is the first one.
pub record IsRead {A : Type 0} (Holds : A → Type 0) (Reads : Result A TextFault → Type 0) : Type 0 where
  pub one : IsOne Reads
  pub holds : (x : A) → Reads (Ok x) → Holds x
  pub formed : (found : JsonFault) → Reads (Err (Json found)) → ⊥

pub gives-read : {A : Type 0} {Holds : A → Type 0} (x : A) → Holds x → IsRead Holds (Gives x)
gives-read {Holds = Holds} x is = record {
  one = record { some = (Ok x, refl); once = λ a b e f. e ∙ sym f };
  holds = λ y e. subst Holds (sym (given-same e)) is;
  formed = λ found e. apart x (Json found) (sym e);
}

pub or-read : {A : Type 0} (Is : A → Type 0) (fault : TextFault) → Decided Is → ((x y : A) → Is x → Is y → x ≡ y)
    → ((found : JsonFault) → Json found ≡ fault → ⊥) → IsRead Is (Or Is fault)
or-read {A = A} Is fault decided alike formed = record {
  one = record { some = by decided; once = one };
  holds = λ x is. is;
  formed = λ found is. formed found is.1;
}
  where
    by : Decided Is → (answer : Result A TextFault) × Or Is fault answer
    by (inl (x, is)) = (Ok x, is)
    by (inr none) = (Err fault, (none, refl))

    one : (a b : Result A TextFault) → Or Is fault a → Or Is fault b → a ≡ b
    one (Ok x) (Ok y) is also = ap given (alike x y is also)
    one (Ok x) (Err f) is also = absurd (also.0 x is)
    one (Err f) (Ok y) is also = absurd (is.0 y also)
    one (Err f) (Err g) is also = ap refused (is.1 ∙ sym also.1)

pub then-read : {A B : Type 0} {Holds : A → Type 0} {Kept : B → Type 0} {First : Result A TextFault → Type 0}
    {Next : A → Result B TextFault → Type 0} → IsRead Holds First → ((x : A) → Holds x → IsRead Kept (Next x))
    → IsRead Kept (Then First Next)
then-read {A = A} {B = B} {Holds = Holds} {Kept = Kept} {First = First} {Next = Next} first next =
    record { one = record { some = by first.one.some.0 first.one.some.1; once = one }; holds = holds; formed = formed }
  where
    after : (x : A) → First (Ok x) → IsRead Kept (Next x)
    after x is = next x (first.holds x is)

    by : (answer : Result A TextFault) → First answer → (b : Result B TextFault) × Then First Next b
    by (Ok x) is = let more = (after x is).one.some in (more.0, goes_on x is more.1)
    by (Err fault) is = (Err fault, ends fault is refl)

    one : (a b : Result B TextFault) → Then First Next a → Then First Next b → a ≡ b
    one a b (goes_on x is more) (goes_on y also other) =
        let same : x ≡ y = given-same (first.one.once (Ok x) (Ok y) is also) in
        (after x is).one.once a b more (subst (λ z. Next z b) (sym same) other)
    one a b (goes_on x is more) (ends g also f) = absurd (apart x g (first.one.once (Ok x) (Err g) is also))
    one a b (ends f is e) (goes_on y also other) = absurd (apart y f (first.one.once (Ok y) (Err f) also is))
    one a b (ends f is e) (ends g also e') =
        e ∙ (ap refused (refused-same A f g (first.one.once (Err f) (Err g) is also)) ∙ sym e')

    holds : (y : B) → Then First Next (Ok y) → Kept y
    holds y (goes_on x is more) = (after x is).holds y more
    holds y (ends fault is e) = absurd (apart y fault e)

    formed : (found : JsonFault) → Then First Next (Err (Json found)) → ⊥
    formed found (goes_on x is more) = (after x is).formed found more
    formed found (ends fault is e) =
        first.formed found (subst (λ f. First (Err f)) (sym (refused-same B (Json found) fault e)) is)

-- ---- calls
pub went_on : {A B : Type 0} {First : Result A TextFault → Type 0} {Next : A → Result B TextFault
    → Type 0} {x : A} {result : Result B (Stop TextFault)}
    → IsReadResult First (Ok x) → IsReadResult (Next x) result → IsReadResult (Then First Next) result
went_on {A = A} {B = B} {First = First} {Next = Next} {x = x} {result = result} is more =
    record { read = by result more.read }
  where
    by : (r : Result B (Stop TextFault)) → Answers (Next x) r → Answers (Then First Next) r
    by (Ok y) reads = goes_on x is.read reads
    by (Err (Fault fault)) reads = goes_on x is.read reads
    by (Err Memory) reads = tt

-- at the exit of a `?`
pub stopped : {A B : Type 0} {First : Result A TextFault → Type 0} {Next : A → Result B TextFault
    → Type 0} {stop : Stop TextFault} {result : Result B (Stop TextFault)}
    → IsReadResult First (Err stop) → IsErrAnd result (λ e. e ≡ stop) → IsReadResult (Then First Next) result
stopped {A = A} {B = B} {First = First} {Next = Next} {stop = stop} {result = result} is exit =
    let (other, ended, same) = err_from_is_err_and result exit in
    rw (ended, same) (record { read = by stop is.read })
  where
    by : (s : Stop TextFault) → Answers {A = A} First (Err s) → Answers {A = B} (Then First Next) (Err s)
    by (Fault fault) reads = ends fault reads refl
    by Memory reads = tt

pub given_last : {A : Type 0} {x : A} → IsReadResult (Gives x) (Ok x)
given_last = record { read = refl }

-- want of memory
pub wanting : {A : Type 0} {Reads : Result A TextFault → Type 0} → IsReadResult Reads (Err Memory)
wanting = record { read = tt }

pub told : {A : Type 0} (Reads : Result A TextFault → Type 0) (stop : Stop TextFault) (fault : TextFault)
    → IsReadResult Reads (Err stop) → stop ≡ Fault fault → Reads (Err fault)
told Reads stop fault is same = by (subst (λ (s : Stop TextFault). IsReadResult Reads (Err s)) same is)
  where
    by : IsReadResult Reads (Err (Fault fault)) → Reads (Err fault)
    by is = is.read

-- what holds of all that is read, where something is
pub ok-told : {A : Type 0} (Reads : Result A TextFault → Type 0) (P : A → Type 0) (result : Result A (Stop TextFault))
    → IsReadResult Reads result → ((x : A) → Reads (Ok x) → P x) → IfOk result P
ok-told Reads P (Ok x) is holds = holds x is.read
ok-told Reads P (Err stop) is holds = tt

pub fault-told : {A : Type 0} (Reads : Result A TextFault → Type 0) (result : Result A (Stop TextFault))
    (fault : TextFault) → IsReadResult Reads result → result ≡ Err (Fault fault) → Reads (Err fault)
fault-told Reads result fault is same = by (subst (IsReadResult Reads) same is)
  where
    by : IsReadResult Reads (Err (Fault fault)) → Reads (Err fault)
    by is = is.read
