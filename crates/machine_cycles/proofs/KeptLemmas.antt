-- What events show stays as it is where the lists beside them grow.
use Rattle.std.proofs.Common.{◌≡◌, Result, Ok, Err, OnErr, ◌⊎◌, inl, inr, ℕ, suc, ◌<◌, List, [], ◌∷◌, ◌++◌, length, get_or, take, refl, sym, subst, ap, ap₂, ◌∙◌, arith, length-append}
use Rattle.std.proofs.lemmas.List.{get_or_append_left, get_or-map, get_or_read, length-map, map-append, take-append-drop}
use Rattle.std.proofs.lemmas.List.Elements.{All-append, All-cons, All-nil}
use Rattle.machine_cycles.specs.declared.event.Event.{Event}
use Rattle.machine_cycles.specs.declared.event.Visible.{Visible}
use Rattle.machine_cycles.specs.declared.log.Kept.{Kept}
use Rattle.machine_cycles.specs.declared.log.Use.{Use}
use Rattle.machine_cycles.specs.declared.log.Use.TheVariants.{Immediate, Operation}
use Rattle.machine_cycles.specs.declared.names.Lists.{Lists}
use Rattle.machine_cycles.specs.declared.names.Names.{Names}
use Rattle.machine_cycles.specs.declared.names.Scene.{Scene}
use Rattle.machine_cycles.specs.Kept.{HaveNames, event_of, events_of, hash_in, imm_in, tape_in, visible_in, word_in}
use Rattle.machine_cycles.specs.Log.{ShowsAt}
use Rattle.machine_cycles.specs.Names.{AreNames, AreWithin, HaveGrown, lower_named, nowhere, scene_named, zeros}
use Rattle.machine_cycles.proofs.NameLemmas.{named-more, under-more}

-- what holds holds of an error
pub on_err : {A E : Type 0} {P : Type 0} (r : Result A E) → P → OnErr r P
on_err (Ok x) p = tt
on_err (Err e) p = p

-- an operation has no elements of hashing
pub no_hash : (kind : Use) (elements : List ℕ) → (kind ≡ Immediate) ⊎ (kind ≡ Operation) → zeros ≡ hash_in kind elements
no_hash kind elements (inl e) = ap (λ k. hash_in k elements) (sym e)
no_hash kind elements (inr e) = ap (λ k. hash_in k elements) (sym e)

-- what stands at a place of the events is the event that is kept there
module _ (lists : Lists) (items : List Kept) (events : List Event) (place : ℕ) (k : Kept)
    (view : events_of lists items ≡ events) (within : place < length events) (is : k ≡ get_or items place k) where
  kept_within : place < length items
  kept_within = rw (sym (length-map items (event_of lists))) (rw (sym view) at within)

  at_place : event_of lists k ≡ get_or events place (event_of lists k)
  at_place =
      ap (event_of lists) is ∙ sym (get_or-map (event_of lists) items place k (event_of lists k) kept_within)
      ∙ ap (λ es. get_or es place (event_of lists k)) view

  pub shows : {P : Event → Type 0} → P (event_of lists k) → ShowsAt events place P
  shows p = (event_of lists k, at_place, p)

  -- it names what there is
  pub names_within : HaveNames lists items → AreWithin lists k.names
  names_within h = subst (λ x. AreWithin lists x.names) (sym is) (h place k kept_within)

-- the lists grow
module _ (before after : Lists) (grown : HaveGrown before after) where
  within-more : (n : Names) → AreWithin before n → AreWithin after n
  within-more n h = record {
    scene = omega (arith, length-append before.scenes.items grown.scenes, ap length grown.more_scenes, h.scene);
    lower = omega (arith, length-append before.cells.items grown.cells, ap length grown.more_cells, h.lower);
    elements = omega (arith, length-append before.uses.items grown.uses, ap length grown.more_uses, h.elements);
  }

  event-more : (k : Kept) → AreWithin before k.names → event_of after k ≡ event_of before k
  event-more k h =
      rw (
        grown.more_scenes,
        grown.more_cells,
        grown.more_uses,
        get_or_append_left before.scenes.items grown.scenes nowhere k.names.scene h.scene,
        under-more before.cells.items grown.cells k.names.lower h.lower,
        named-more zeros before.uses.items grown.uses k.names.elements h.elements,
      ) refl

  pub names-kept : (items : List Kept) → HaveNames before items → HaveNames after items
  names-kept items h = λ i d within. within-more _ (h i d within)

  pub events-kept : (items : List Kept) → HaveNames before items → events_of after items ≡ events_of before items
  events-kept [] h = refl
  events-kept (k ∷ items) h =
      ap₂ (λ (e : Event) (es : List Event). e ∷ es) (event-more k (h 0 k (omega arith)))
      (events-kept items (λ i d within. h (suc i) d (omega (arith, within))))

  -- one event more
  module _ (items more : List Kept) (k : Kept) (h : HaveNames before items) (is : more ≡ items ++ k ∷ []) where
    pub names-next : AreWithin after k.names → HaveNames after more
    names-next within =
        rw is (All-append (λ x. AreWithin after x.names) items (k ∷ []) (names-kept items h)
        (All-cons (λ x. AreWithin after x.names) k [] within (All-nil (λ x. AreWithin after x.names))))

    pub events-next : events_of after more ≡ events_of before items ++ event_of after k ∷ []
    events-next =
        ap (events_of after) is ∙ map-append (event_of after) items (k ∷ [])
        ∙ ap (λ es. es ++ event_of after k ∷ []) (events-kept items h)

-- what is kept of an event shows that event
pub kept-shows : (lists : Lists) (k : Kept) (before : Visible) (elements : List ℕ) → AreNames lists before elements k.names
    → k.clock ≡ before.clock → k.depth ≡ before.depth → k.top ≡ take 4 before.cells
    → event_of lists k ≡ record {
      op = k.op;
      before = before;
      imm = imm_in k.kind elements;
      tape = tape_in k.kind elements;
      word = word_in k.kind elements;
      hash = hash_in k.kind elements;
      result = k.result;
    }
kept-shows lists k before elements h clock depth top =
    rw (h.scene, h.lower, h.elements, clock, depth, top, take-append-drop 4 before.cells) refl

-- the state that is kept of an event
pub seen-named : (lists : Lists) (k : Kept) (scene : Scene) (cells : List ℕ) → AreWithin lists k.names
    → scene ≡ get_or lists.scenes.items k.names.scene scene → cells ≡ k.top ++ lower_named lists k.names
    → record {
      clock = k.clock;
      context = scene.context;
      fmp = scene.fmp;
      in_syscall = scene.in_syscall;
      digest = scene.digest;
      nesting = scene.nesting;
      depth = k.depth;
      cells = cells;
    } ≡ visible_in (scene_named lists k.names) (lower_named lists k.names) k
seen-named lists k scene cells within at shown =
    rw (shown, get_or_read lists.scenes.items k.names.scene scene within.scene at nowhere) refl
