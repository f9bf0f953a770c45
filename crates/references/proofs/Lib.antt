mod RecentLaws
