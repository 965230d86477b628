-- With one more that follows a channel, or the same.
use Rattle.std.proofs.Common.{◌<◌, ◌∙◌, ℕ, List, length, slice_set, sym, subst}
use Rattle.std.specs.Prelude.{map}
use Rattle.audit_channels.specs.ChannelOrders.{AreWith, LeadToChannels, IsWith}
use Rattle.audit_channels.proofs.Made.{is_with, leads_with, at_item, same_there}
use Rattle.audit_channels.proofs.waits.Waits.add.Goals as goal

pub invariant_of-self : goal.invariant_of-self
invariant_of-self c =
    let vs = c.self.inside.channels.items in
    let less : c.args.channel < length (map (λ x. x.channels.items) vs) =
    subst (λ (w : List (List ℕ)). c.args.channel < length w) (sym c.self.view_is) c.requires.channel in
    let items = ◌∙◌ {A = List ℕ} c.in_err-add.ensures.kept
    (at_item (λ x. x.channels.items) vs c.args.channel c.index_mut.result.now less c.index_mut.ensures.value) in
    subst LeadToChannels (sym (same_there (λ x. x.channels.items) vs c.args.channel c.add.new.self less items)) c.self.invariant

pub invariant_of-self-2 : goal.invariant_of-self-2
invariant_of-self-2 c =
    let vs = c.self.inside.channels.items in
    let less : c.args.channel < length (map (λ x. x.channels.items) vs) =
    subst (λ (w : List (List ℕ)). c.args.channel < length w) (sym c.self.view_is) c.requires.channel in
    let next_less : c.args.next < length (map (λ x. x.channels.items) vs) =
    subst (λ (w : List (List ℕ)). c.args.next < length w) (sym c.self.view_is) c.requires.next in
    let with_it = subst (λ (xs : List ℕ). AreWith xs c.args.next c.add.new.self.channels.items)
    (at_item (λ x. x.channels.items) vs c.args.channel c.index_mut.result.now less c.index_mut.ensures.value) c.in_ok-add.ensures.added in
    leads_with (map (λ x. x.channels.items) vs) c.args.channel c.args.next _ c.self.invariant next_less
    (is_with (λ x. x.channels.items) vs c.args.channel c.args.next c.add.new.self less with_it)

pub returns : goal.returns
returns c =
    let vs = c.self.inside.channels.items in
    let less : c.args.channel < length (map (λ x. x.channels.items) vs) =
    subst (λ (w : List (List ℕ)). c.args.channel < length w) (sym c.self.view_is) c.requires.channel in
    let with_it = subst (λ (xs : List ℕ). AreWith xs c.args.next c.add.new.self.channels.items)
    (at_item (λ x. x.channels.items) vs c.args.channel c.index_mut.result.now less c.index_mut.ensures.value) c.in_ok-add.ensures.added in
    subst (λ (w : List (List ℕ)). IsWith w c.args.channel c.args.next (map (λ x. x.channels.items) (slice_set vs c.args.channel c.add.new.self)))
    c.self.view_is (is_with (λ x. x.channels.items) vs c.args.channel c.args.next c.add.new.self less with_it)
