-- The rule holds of a new table.
use Rattle.link_words.proofs.Keepers.{not_manager}
use Rattle.link_words.specs.Parts.{IsKept, has_for_manager, has_sender_for_manager}
use Rattle.lane_model.specs.declared.stages.Turn.TheVariants as turn
use Rattle.link_words.specs.declared.codes.DeskTables.{DeskTables}
use Rattle.link_words.specs.PlacedDesks.{PlacedDesk, right_to}
use Rattle.link_words.specs.Histories.{NoneOf}
use Rattle.link_words.proofs.Seen.{nothing_within}
use Rattle.std.proofs.Common.{◌≡◌, ℕ, ◌<◌, zero, suc, List, [], ◌∷◌, ◌++◌, map, length, refl, sym, ap, ◌∙◌, subst, inl, arith, true, false}
use mathlib.Core.Option.{some, some-injective, some-ne-none}
use mathlib.Core.Option.{Option as Option_of}
use Rattle.std.proofs.lemmas.List.{length-map}
use base.Stored.{Coded}
use lib.ListN.{get_elem?}
use Rattle.atomic_table.specs.Table.{opening}
use Rattle.atomic_table.proofs.Lists.{some_there}
use Rattle.rp_base.specs.declared.kinds.End.{End}
use Rattle.rp_base.specs.declared.kinds.End.TheVariants as side
use Rattle.rp_base.specs.Limits.{ring_capacity}
use Rattle.lane_model.specs.declared.calls.LinkConfig.{LinkConfig}
use Rattle.lane_model.specs.Desks.{DeskMeaning}
use Rattle.lane_model.specs.Conditions.{IsConfig}
use Rattle.lane_laws.proofs.SoundKept.{opened_sound}
use Rattle.ring_core.specs.declared.states.RingState.{RingState}
use Rattle.ring_core.specs.Rings.{sizes_of}
use Rattle.ring_core.specs.RingLinks.{opened_ring_link}
use Rattle.lane_laws.proofs.RingLinks.{opened_link_sound}
use Rattle.link_words.specs.declared.rule.Slot.{Slot}
use Rattle.link_words.specs.declared.rule.Slot.TheVariants.{Buffer, Sender, Receiver}
use Rattle.link_words.specs.declared.rule.LinkSizes.{LinkSizes}
use Rattle.link_words.specs.declared.rule.Call.TheVariants.{Gathers}
use Rattle.link_words.specs.declared.rule.Pass.{Pass}
use Rattle.link_words.specs.declared.rule.View.{View}
use Rattle.link_words.specs.Codes.{copied, opened_copy}
use Rattle.link_words.specs.Sides.{no_sides}
use Rattle.link_words.proofs.Frames.{some_copy}
use Rattle.link_words.proofs.Gathered.{gathered_none}
use Rattle.link_words.specs.Passes.{PassAt}
use Rattle.link_words.specs.Words.{lane_to, words_of, shelf_to}
use Rattle.link_words.proofs.Parts.{SendsAgree, TakesAt}
use Rattle.link_words.specs.Rule.{HasCall, HistoryOf, HandsOf, WordsRule, first_view, LatestOf}
use Rattle.link_words.specs.Parts.{HoldsBuffers, Knows}
use Rattle.link_words.specs.Histories.{hands_of}
use Rattle.link_words.proofs.BufferNumbers.{opened_numbers}
use Rattle.link_words.proofs.Parts.{put_together}
use Rattle.link_words.specs.Fresh.{opened_slots, opened_sender, opened_receiver}

map_append : {A B : Type 0} (f : A → B) (xs ys : List A) → map f (xs ++ ys) ≡ map f xs ++ map f ys
map_append f [] ys = refl
map_append {B = B} f (x ∷ xs) ys = ap (λ (l : List B). f x ∷ l) (map_append f xs ys)

new_shelf : {B : Type 0} {kc : Coded B} {kz : DeskTables} (s : RingState (PlacedDesk kc kz)) (xs : List (List ℕ)) → length xs ≡ s.rings.sizes.capacity → length s.lane.lane.accepted ≡ 0 → HoldsBuffers s (map some (map Buffer xs))
new_shelf s xs many none_accepted = record {
  long = length-map (map Buffer xs) some ∙ (length-map xs Buffer ∙ many);
  full = λ k from to other. absurd (omega (arith, to, none_accepted));
  home = λ id low mine theirs. some_there (map Buffer xs) id (omega (arith, low, many, length-map xs Buffer));
}

false-true : false ≡ true → ⊥
false-true e = absurd (cc)

-- the one view, and the one pass in it
only : (z : LinkSizes) (i : ℕ) (v : View) → get_elem? (first_view z 64 ∷ []) i ≡ some v → (i ≡ 0) × (first_view z 64 ≡ v)
only z zero v e = (refl, some-injective _ v e)
only z (suc i) v e = absurd (some-ne-none v (sym e))

first : (z : LinkSizes) (j l : ℕ) (q : Pass) → PassAt (first_view z 64 ∷ []) j l q → (j ≡ 0) × (l ≡ 0) × (record { number = 64; call = Gathers no_sides no_sides; first = 0; own = []; hands = [] } ≡ q)
first z j l q (v, ev, eq) = let a = only z j v ev in let b = pass l (subst (λ (x : View). get_elem? x.passes l ≡ some q) (sym a.1) eq) in (a.0, b.0, b.1)
  where
    pass : (k : ℕ) → get_elem? (record { number = 64; call = Gathers no_sides no_sides; first = 0; own = []; hands = [] } ∷ []) k ≡ some q → (k ≡ 0) × (record { number = 64; call = Gathers no_sides no_sides; first = 0; own = []; hands = [] } ≡ q)
    pass zero e = (refl, some-injective _ q e)
    pass (suc k) e = absurd (some-ne-none q (sym e))

module _ {B : Type 0} {kc : Coded B} {kz : DeskTables} (cd : Coded (PlacedDesk kc kz)) (desk : DeskMeaning (PlacedDesk kc kz)) where
  pub opens_new : (config : LinkConfig) (host remote : PlacedDesk kc kz) (xs ys : List (List ℕ)) → IsConfig config → config.first < 4294967296 → length xs ≡ ring_capacity config.num0 → length ys ≡ ring_capacity config.num1
      → let z : LinkSizes = record { to_host = sizes_of config.num0 true; to_remote = sizes_of config.num1 false; book = config.book; first = config.first; desks = kz } in
      opened_copy z ≡ copied cd (opened_ring_link config host remote) → WordsRule cd desk z (opening (words_of 0 [] (opened_ring_link config host remote))
      (opened_slots config.book (right_to host) (right_to remote) xs ys)
      (first_view z 64))
  opens_new config host remote xs ys is low many0 many1 known =
      let z : LinkSizes = record { to_host = sizes_of config.num0 true; to_remote = sizes_of config.num1 false; book = config.book; first = config.first; desks = kz } in let m = opened_ring_link config host remote in (
        m,
        0,
        put_together refl
            (record { host = map some (map Buffer xs); remote = map some (map Buffer ys) }) (ap (λ (l : List (Option_of Slot)). some (Sender (opened_sender config.book)) ∷ some (Receiver (opened_receiver config.book (right_to host))) ∷ some (Sender (opened_sender config.book)) ∷ some (Receiver (opened_receiver config.book (right_to remote))) ∷ l)
            (map_append some (map Buffer xs) (map Buffer ys)))
            (record { rings = opened_link_sound config host remote is; sound = opened_sound config host remote }) ((refl, refl), (refl, refl)) shelf (record { start = m; run = []; by_run = refl; short = opened_numbers config host remote })
            (record {
              calls = λ j l q there. subst (HasCall m 0) (first z j l q there).2 (refl, refl, gathered_none _, gathered_none _);
              keepers = λ e i k j l p q ep eq _ _. ap (λ (x : Pass). x.number) (sym (first z i k p ep).2 ∙ (first z j l q eq).2);
              some_keeper = record { senders = λ e. no_sender e; receivers = λ e. no_receiver e };
              still = inl refl;
            })
            (record {
              own = λ j l q there. subst (HistoryOf m) (first z j l q there).2 (record { sent = λ i. none i; taken = λ i. none_taken i; read = λ i. tt; none_later = tt; counts = λ i. nothing_within _ });
              hands = λ j l q there. subst (HandsOf m) (first z j l q there).2 (λ e user. hand e);
              latest = λ j l q there. subst (LatestOf m) (first z j l q there).2 (inl refl);
            })
            (record {
              places = λ i k j l p q ep eq _. let a = first z i k p ep in let b = first z j l q eq in (a.0 ∙ sym b.0, a.1 ∙ sym b.1);
              manager = λ i v e manages. let a = only z i v e in subst (Knows cd m (first_view z 64 ∷ []) i) a.1 (record { users = refl; inc = refl; unused = λ n none not. nothing n; ended = λ k p never. absurd (some-ne-none p (sym never)); closed = λ never. absurd (false-true never); out = λ j l q there apart. absurd (apart ((first z j l q there).0 ∙ sym a.0)); copy = λ k same _. sym (some_copy (opened_copy z) k same) ∙ known });
              many = refl;
              short = low;
            }),
      )
    where
      no_sender : (e : End) → (lane_to (opened_ring_link config host remote) e).lane.sender ≡ turn.Manager → IsKept (has_sender_for_manager e) (first_view (record { to_host = sizes_of config.num0 true; to_remote = sizes_of config.num1 false; book = config.book; first = config.first; desks = kz }) 64 ∷ [])
      no_sender side.Host is = not_manager turn.Free refl is
      no_sender side.Remote is = not_manager turn.Free refl is

      no_receiver : (e : End) → (lane_to (opened_ring_link config host remote) e).lane.receiver ≡ turn.Manager → IsKept (has_for_manager e) (first_view (record { to_host = sizes_of config.num0 true; to_remote = sizes_of config.num1 false; book = config.book; first = config.first; desks = kz }) 64 ∷ [])
      no_receiver side.Host is = not_manager turn.Free refl is
      no_receiver side.Remote is = not_manager turn.Free refl is

      nothing : (n : ℕ) → NoneOf (opened_ring_link config host remote) n
      nothing n side.Host = (refl, refl)
      nothing n side.Remote = (refl, refl)

      none_taken : (i : End) → TakesAt (opened_ring_link config host remote) i 64 0 []
      none_taken side.Host since = refl
      none_taken side.Remote since = refl

      none : (i : End) → SendsAgree (opened_ring_link config host remote) i 64 0 []
      none side.Host since = refl
      none side.Remote since = refl

      shelf : (e : End) → HoldsBuffers (lane_to (opened_ring_link config host remote) e) (shelf_to (record { host = map some (map Buffer xs); remote = map some (map Buffer ys) }) e)
      shelf side.Host = new_shelf (opened_ring_link config host remote).to_host xs many0 refl
      shelf side.Remote = new_shelf (opened_ring_link config host remote).to_remote ys many1 refl

      hand : (e : End) → hands_of 64 (lane_to (opened_ring_link config host remote) e).lane.lane.held ≡ []
      hand side.Host = refl
      hand side.Remote = refl
