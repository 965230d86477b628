-- It is known, or is there now.
use Rattle.std.proofs.Common.{◌≡◌, ◌==◌, ◌⊎◌, ℕ, inl, inr, true}
use Rattle.std.specs.List.{list_any}
use Rattle.audit_channels.specs.ChannelSet.{Knows}
use Rattle.audit_channels.proofs.Made.{with_found, any_with}
use Rattle.audit_channels.proofs.following.Following.add.Goals as goal

pub returns-then-has-clause-added : goal.returns-then-has-clause-added
returns-then-has-clause-added c =
    with_found c.args.self.now.channels.items c.args.channel (c.args.self.now.known_are_there c.args.channel (c.has.ensures.0 c.if-has.true))

pub invariant_of-self-2 : goal.invariant_of-self-2
invariant_of-self-2 c = record {
  known_are_there = λ channel knows.
      (let old = c.args.self.now.channels.items in
      any_with old c.args.channel c.put.new.channels.items c.in_ok-put.ensures.added channel
      (let P : (Knows c.args.self.now.known channel ⊎ (channel ≡ c.args.channel)) → (list_any (λ (x : ℕ). channel == x) old ≡ true)
      ⊎ (channel ≡ c.args.channel) =
      λ o. elim o [ inl k ↦ inl (c.args.self.now.known_are_there channel k) | inr e ↦ inr e ] in
      P (c.with-self.ensures.only channel knows)));
}
