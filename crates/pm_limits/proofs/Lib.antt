mod Unlimited
