-- In the row of those that are known, or where none is.
use Rattle.std.proofs.Common.{refl}
use Rattle.audit_channels.proofs.Bits.{knows_this, knows_still, knows_no_other, knows_none, knows_one}
use Rattle.audit_channels.proofs.channel_set.ChannelSet.with.Goals.{else-self-row-via-then-self-row+else-self-ne0, else-self-row-via-else-self-row}
use Rattle.audit_channels.proofs.channel_set.ChannelSet.with.Goals as goal

pub returns-clause-kept : goal.returns-clause-kept
returns-clause-kept c =
    elim c.else-self-row.branch [
      | else-self-row-via-then-self-row+else-self-ne0 w ↦ knows_none c.args.self _ c.args.channel refl refl w.if-self-ne0.false
      | else-self-row-via-else-self-row w ↦ knows_still c.args.self _ c.args.channel refl refl w.if-self-row.false
    ]

pub returns-clause-only : goal.returns-clause-only
returns-clause-only c =
    elim c.else-self-row.branch [
      | else-self-row-via-then-self-row+else-self-ne0 w ↦ knows_one c.args.self _ c.args.channel refl refl w.if-self-ne0.false
      | else-self-row-via-else-self-row w ↦ knows_no_other c.args.self _ c.args.channel refl refl w.if-self-row.false
    ]

pub returns-clause-of_row : goal.returns-clause-of_row
returns-clause-of_row c = λ same. knows_this c.args.self _ c.args.channel refl refl

pub returns-clause-first : goal.returns-clause-first
returns-clause-first c = λ none. knows_this c.args.self _ c.args.channel refl refl
