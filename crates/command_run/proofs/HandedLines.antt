-- Bytes that are kept and handed on.
use Rattle.std.proofs.Common.{◌≡◌, ℕ, ◌+◌, ◌≤◌, min, Option, Some, None, Result, Err, IfErr, List, [], ◌++◌, length, take, refl, sym, ap, ◌∙◌, append_assoc, append-nil, arith, subst}
use Rattle.std.proofs.Math.Seq.{take-append-add}
use Rattle.std.proofs.lemmas.List.{take_min, take-append-le}
use Rattle.std.specs.Io.KnownBytes.{Appends}
use Rattle.rp_io.specs.Contents.{AppendsFront}
use Rattle.command_run.specs.declared.faults.OutputFault.{OutputFault}
use Rattle.command_run.specs.declared.faults.OutputFault.TheVariants as output_fault
use Rattle.command_run.specs.Fetches.{IfSinkFailed}
use Rattle.run_log.specs.Logs.{Hands}

-- nothing was appended
pub appends_nothing : (written : Option (List ℕ)) → Appends written written []
appends_nothing None = tt
appends_nothing (Some bytes) = sym (append-nil bytes)

-- appended one after the other
pub appends_more : (a b c : Option (List ℕ)) (x y : List ℕ) → Appends a b x → Appends b c y → Appends a c (x ++ y)
appends_more None b c x y first second = tt
appends_more (Some a) None c x y first second = absurd first
appends_more (Some a) (Some b) None x y first second = absurd second
appends_more (Some a) (Some b) (Some c) x y first second = second ∙ ap (λ front. front ++ y) first ∙ append_assoc a x y

-- the same bytes, spelled otherwise
pub appends_same : (a b : Option (List ℕ)) (x y : List ℕ) → x ≡ y → Appends a b x → Appends a b y
appends_same a b x y same appended = subst (λ bytes. Appends a b bytes) same appended

-- nothing was told yet
pub hands_nothing : (written : Option (List ℕ)) → Hands written [] written [] []
hands_nothing written = record { handed = []; appended = appends_nothing written; rest = refl }

-- kept, and not handed on
pub hands_kept : (written : Option (List ℕ)) (kept bytes left : List ℕ) → left ≡ kept ++ bytes → Hands written kept written left bytes
hands_kept written kept bytes left same = record { handed = []; appended = appends_nothing written; rest = same }

-- told one after the other
pub hands_more : (a b c : Option (List ℕ)) (k l m x y : List ℕ) → Hands a k b l x → Hands b l c m y → Hands a k c m (x ++ y)
hands_more a b c k l m x y first second = record {
  handed = first.handed ++ second.handed;
  appended = appends_more a b c first.handed second.handed first.appended second.appended;
  rest = append_assoc first.handed second.handed m ∙ ap (λ more. first.handed ++ more) second.rest
      ∙ sym (append_assoc first.handed l y) ∙ ap (λ front. front ++ y) first.rest ∙ append_assoc k x y;
}

-- kept or handed on, and then a front of what is kept and of more is handed on
pub hands_front : (a b c : Option (List ℕ)) (k l x y : List ℕ) → Hands a k b l x → AppendsFront b c (l ++ y) → AppendsFront a c ((k ++ x) ++ y)
hands_front a b c k l x y told front = record {
  count = length told.handed + front.count;
  appended = appends_same a c _ (take (length told.handed + front.count) ((k ++ x) ++ y))
      (sym (take-append-add told.handed (l ++ y) front.count) ∙ ap (take (length told.handed + front.count)) (sym (append_assoc told.handed l y) ∙ ap (λ all. all ++ y) told.rest))
      (appends_more a b c told.handed (take front.count (l ++ y)) told.appended front.appended);
}

-- nothing was written, which is a front of any text
pub front_of_none : (written : Option (List ℕ)) (bytes : List ℕ) → AppendsFront written written bytes
front_of_none written bytes = record { count = 0; appended = appends_nothing written }

-- a front of the first bytes is a front of all
pub front_of_more : (a b : Option (List ℕ)) (x y : List ℕ) → AppendsFront a b x → AppendsFront a b (x ++ y)
front_of_more a b x y front =
    let most = min front.count (length x) in
    let inside : most ≤ length x = omega arith in
    record {
      count = most;
      appended = appends_same a b (take front.count x) (take most (x ++ y)) (sym (take_min front.count x) ∙ sym (take-append-le most x y inside)) front.appended;
    }

-- a front of all, by a front of the bytes up to some place
pub front_of_all : (a b : Option (List ℕ)) (x more all : List ℕ) → AppendsFront a b x → x ++ more ≡ all → AppendsFront a b all
front_of_all a b x more all front whole = subst (λ bytes. AppendsFront a b bytes) whole (front_of_more a b x more front)

-- told from the start, and then a front of what is kept is handed on
pub hands_front_kept : (a b c : Option (List ℕ)) (l x : List ℕ) → Hands a [] b l x → AppendsFront b c l → AppendsFront a c x
hands_front_kept a b c l x told front =
    subst (λ bytes. AppendsFront a c bytes) (append-nil x)
    (hands_front a b c [] l x [] told (subst (λ bytes. AppendsFront b c bytes) (sym (append-nil l)) front))

-- all of it, and then a front of more, are appended
pub front_after : (a b c : Option (List ℕ)) (x y : List ℕ) → Appends a b x → AppendsFront b c y → AppendsFront a c (x ++ y)
front_after a b c x y whole front = record {
  count = length x + front.count;
  appended = appends_same a c (x ++ take front.count y) (take (length x + front.count) (x ++ y)) (sym (take-append-add x y front.count)) (appends_more a b c x (take front.count y) whole front.appended);
}

module _ (T holds : Type 0) (result : Result T OutputFault) where
  -- the sink failed
  pub on_write : result ≡ Err output_fault.Failed → holds → IfErr result (λ why. IfSinkFailed why holds)
  on_write is found = subst (λ (r : Result T OutputFault). IfErr r (λ why. IfSinkFailed why holds)) (sym is) found

  -- memory ran out
  pub no_write : result ≡ Err output_fault.NoMemory → IfErr result (λ why. IfSinkFailed why holds)
  no_write is = subst (λ (r : Result T OutputFault). IfErr r (λ why. IfSinkFailed why holds)) (sym is) tt
